-- Worked examples, by computing: the same savepoint begun twice, a release of an older name, texts out of place.
use Rattle.std.proofs.Common.{◌≡◌, ℕ, pos, List, [], ◌∷◌, Option, Some, None, refl, ◌∙◌, map, option_and_then}
use Rattle.std.specs.FinMap.{empty, insert, get}
use Rattle.sqlx_savepoints.proofs.Laid.{get-laid, sees-insert}
use Rattle.sqlx_savepoints.specs.Texts.{begin_at, commit_at, rollback_at}
use Rattle.sqlx_savepoints.specs.NamedSavepoints.{Named, named_over, after}
use Rattle.sqlx_savepoints.specs.Levels.{begins, writes, commits, rolls_back, named_run}
use Rattle.sqlx_savepoints.specs.declared.level_text.LevelText.{LevelText}
use Rattle.sqlx_savepoints.specs.declared.level_text.LevelText.TheVariants.{Begin, BeginImmediate, Commit, Rollback, Savepoint, Release, RollbackTo}

-- the texts in order, each of which must be allowed
abbrev all_after : List LevelText → Named → Option Named
all_after [] state = Some state
all_after (text ∷ texts) state = option_and_then (all_after texts) (after text state)

-- the names on the list, the newest first
abbrev names_of : Named → List ℕ
names_of state = map (λ entry. entry.name) state.entries

-- the names that these texts leave, none where one of them is refused
abbrev names_after : List LevelText → Option (List ℕ)
names_after texts = option_and_then (λ state. Some (names_of state)) (all_after texts (named_over empty))

-- ROLLBACK TO keeps its savepoint, and the next SAVEPOINT of that name stands above it
stale : names_after (Begin ∷ Savepoint 1 ∷ RollbackTo 1 ∷ Savepoint 1 ∷ []) ≡ Some (1 ∷ 1 ∷ [])
stale = refl

-- RELEASE takes the newest of the name alone
newest_goes : names_after (Begin ∷ Savepoint 1 ∷ RollbackTo 1 ∷ Savepoint 1 ∷ Release 1 ∷ []) ≡ Some (1 ∷ [])
newest_goes = refl

-- RELEASE of an older name takes all newer ones along
newer_go : names_after (Begin ∷ Savepoint 1 ∷ Savepoint 2 ∷ Savepoint 3 ∷ Release 2 ∷ []) ≡ Some (1 ∷ [])
newer_go = refl

-- a name that isn't on the list, and texts out of their place
no_name : names_after (Begin ∷ Savepoint 1 ∷ Release 2 ∷ []) ≡ None
no_name = refl

begin_inside : names_after (Begin ∷ BeginImmediate ∷ []) ≡ None
begin_inside = refl

savepoint_outside : names_after (Savepoint 1 ∷ []) ≡ None
savepoint_outside = refl

commit_outside : names_after (Begin ∷ Commit ∷ Commit ∷ []) ≡ None
commit_outside = refl

-- the texts by depth
texts_at_depths : (begin_at 0 ≡ Begin) × (begin_at 1 ≡ Savepoint 1) × (commit_at 1 ≡ Commit) × (commit_at 3 ≡ Release 2) × (rollback_at 1 ≡ Rollback) × (rollback_at 2 ≡ RollbackTo 1)
texts_at_depths = (refl, refl, refl, refl, refl, refl)

-- a level rolled back leaves the value of the level around it, which the last commit publishes
value_back : get (named_run (begins ∷ writes (pos 1) (Some (pos 5)) ∷ begins ∷ writes (pos 1) (Some (pos 6)) ∷ rolls_back ∷ commits ∷ []) (named_over empty)).rows (pos 1) ≡ Some (pos 5)
value_back = get-laid (insert empty (pos 1) (Some (pos 5))) empty (pos 1) ∙ sees-insert empty (pos 1) (Some (pos 5)) empty (pos 1)
