-- What a rollback undoes at most: the writes since its level began.
use Rattle.std.specs.Prelude.{ℕ, suc, ◌≤◌, ◌+◌, List, [], ◌∷◌, drop, map}
use Rattle.sqlx_savepoints.specs.Levels.{Step, StaysWithin, begins, writes, commits, rolls_back, others_change, depth_after}
use Rattle.sqlx_savepoints.specs.Texts.{begin_at, commit_at, rollback_at}
use Rattle.mem_store.specs.Undo.{Undo, no_undo, noted_at, undo_after}

-- a connection's depth, what it can undo, and how many writes came since each open level began, the innermost first
pub record LevelWrites : Type 0 where
  pub depth : ℕ
  pub undo : Undo
  pub since : List ℕ

-- no level is open
abbrev pub no_level : LevelWrites
no_level = record { depth = 0; undo = no_undo; since = [] }

-- what can be undone after a step by the ANSI text at this depth
abbrev pub undo_stepped : Step → ℕ → Undo → Undo
undo_stepped begins depth undo = undo_after (begin_at depth) undo
undo_stepped (writes key value) depth undo = noted_at depth undo
undo_stepped commits depth undo = undo_after (commit_at depth) undo
undo_stepped rolls_back depth undo = undo_after (rollback_at depth) undo
undo_stepped (others_change rows) depth undo = undo

-- how many writes came since each open level began, after a step
abbrev pub since_stepped : Step → List ℕ → List ℕ
since_stepped begins since = 0 ∷ since
since_stepped (writes key value) since = map suc since
since_stepped commits since = drop 1 since
since_stepped rolls_back since = drop 1 since
since_stepped (others_change rows) since = since

-- a step
abbrev pub level_step : Step → LevelWrites → LevelWrites
level_step step s = record { depth = depth_after s.depth step; undo = undo_stepped step s.depth s.undo; since = since_stepped step s.since }

-- the steps in order
abbrev pub level_run : List Step → LevelWrites → LevelWrites
level_run [] s = s
level_run (step ∷ steps) s = level_run steps (level_step step s)

-- the writes since the innermost level began
abbrev pub newest_since : List ℕ → ℕ
newest_since [] = 0
newest_since (count ∷ outer) = count

-- a rollback of the innermost level undoes at most the writes since it began
abbrev pub UndoesFew : LevelWrites → Type 0
UndoesFew s = s.undo.len ≤ (undo_after (rollback_at s.depth) s.undo).len + newest_since s.since

-- the same behind every list of steps
abbrev pub RollbacksUndoFew : Type 0
RollbacksUndoFew = (steps : List Step) → StaysWithin 0 steps → 1 ≤ (level_run steps no_level).depth → UndoesFew (level_run steps no_level)
