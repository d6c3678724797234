-- How far a connection can go back: how many writes of its levels are counted, and how many were when each savepoint was set.
use Rattle.std.specs.Prelude.{◌≡◌, ℕ, zero, suc, ◌+◌, is_some, if◌then◌else◌, List, [], ◌∷◌, drop, map, refl}
use Rattle.std.specs.Option.{unwrap_or}
use Rattle.std.specs.Coded.{Coded, code_by, coded×, coded_ℕ, coded_list}
use Rattle.sqlx_savepoints.specs.NamedSavepoints.{Named, after}
use Rattle.sqlx_savepoints.specs.Texts.{rollback_at}
use Rattle.sqlx_savepoints.specs.declared.level_text.LevelText.{LevelText}
use Rattle.sqlx_savepoints.specs.declared.level_text.LevelText.TheVariants.{Rollback, Savepoint, Release, RollbackTo}
use Rattle.mem_store.specs.declared.saved.Saved.{Saved}
use Rattle.mem_store.specs.UndoLog.{first_mark, from_name}

-- how many writes are counted, and the savepoints with their marks, the newest first
pub record Undo : Type 0 where
  pub len : ℕ
  pub saved : List Saved

-- a savepoint's name and mark, written out
abbrev pub saved_code : Coded Saved
saved_code = code_by (ℕ × ℕ) (coded× coded_ℕ coded_ℕ) (λ s. (s.name, s.mark)) (λ p. record { name = p.0; mark = p.1 }) (λ _. refl)

-- the same of all, written out
abbrev pub undo_code : Coded Undo
undo_code = code_by (ℕ × List Saved) (coded× coded_ℕ (coded_list saved_code)) (λ u. (u.len, u.saved)) (λ p. record { len = p.0; saved = p.1 }) (λ _. refl)

-- nothing to undo
abbrev pub no_undo : Undo
no_undo = record { len = 0; saved = [] }

-- a savepoint whose mark counts so many writes more
abbrev pub counted_from : ℕ → Saved → Saved
counted_from unnoted s = record { name = s.name; mark = unnoted + s.mark }

-- so many changes are noted, behind so many writes for which none had to be
abbrev pub undo_behind : ℕ → ℕ → List Saved → Undo
undo_behind unnoted len saved = record { len = unnoted + len; saved = map (counted_from unnoted) saved }

-- one write more is counted
abbrev pub noted : Undo → Undo
noted undo = record undo { len = suc undo.len }

-- a write by this depth: outside a level it is committed at once, and isn't counted
abbrev pub noted_at : ℕ → Undo → Undo
noted_at zero undo = undo
noted_at (suc depth) undo = noted undo

-- a savepoint of this name on top, which marks how many writes are counted
abbrev pub undo_saved : ℕ → Undo → Undo
undo_saved name undo = record undo { saved = record { name = name; mark = undo.len } ∷ undo.saved }

-- the newest savepoint of the name and all newer ones taken away; the changes stay
abbrev pub undo_released : ℕ → Undo → Undo
undo_released name undo = record undo { saved = drop 1 (from_name name undo.saved) }

-- as many changes as the newest savepoint of the name marks; it stays, all newer ones go
abbrev pub undo_restored : ℕ → Undo → Undo
undo_restored name undo = record { len = unwrap_or (first_mark (from_name name undo.saved)) undo.len; saved = from_name name undo.saved }

-- after a text that may stand there
abbrev pub undo_after : LevelText → Undo → Undo
undo_after (Savepoint name) undo = undo_saved name undo
undo_after (Release name) undo = undo_released name undo
undo_after (RollbackTo name) undo = undo_restored name undo
undo_after _ undo = no_undo

-- after the rollback text at the state's depth, or as before where that text may not stand there
abbrev pub undo_rolled_back : Named → Undo → Undo
undo_rolled_back state undo = if is_some (after (rollback_at state.depth) state) then undo_after (rollback_at state.depth) undo else undo

-- a count that rose by what the log fell
abbrev pub CountsFall : ℕ → Undo → ℕ → Undo → Type 0
CountsFall before old now new = now + new.len ≡ before + old.len

-- a text that rolls back counts each change that it undoes, and any other text counts nothing
abbrev pub Counts : LevelText → ℕ → Undo → ℕ → Undo → Type 0
Counts Rollback before old now new = CountsFall before old now new
Counts (RollbackTo name) before old now new = CountsFall before old now new
Counts _ before old now new = now ≡ before
