-- The savepoint theorem: steps run by the ANSI texts on named savepoints, and on nested levels.
use Rattle.std.specs.Prelude.{◌≡◌, ℕ, zero, suc, ◌<◌, ℤ, Option, List, [], ◌∷◌, length}
use Rattle.sqlx_savepoints.specs.Rows.{Rows}
use Rattle.sqlx_savepoints.specs.Texts.{begin_at, commit_at, rollback_at}
use Rattle.sqlx_savepoints.specs.NamedSavepoints.{Named, named_over, ran, wrote}
use Rattle.sqlx_savepoints.specs.NestedLevels.{Nested, nested_over, current, level_begun, put_into, committed_into, undone}

-- what happens on a connection: a level begins, a key is written, a level is committed or rolled back, or other connections change the committed rows
pub data Step : Type 0 where
  begins : Step
  writes : ℤ → Option ℤ → Step
  commits : Step
  rolls_back : Step
  others_change : Rows → Step

-- whether the step may come at this depth: no level ends that isn't open, none begins at 100
abbrev pub IsWithin : ℕ → Step → Type 0
IsWithin depth begins = depth < 100
IsWithin zero commits = ⊥
IsWithin zero rolls_back = ⊥
IsWithin _ _ = Unit {0}

-- the depth after a step
abbrev pub depth_after : ℕ → Step → ℕ
depth_after depth begins = suc depth
depth_after (suc depth) commits = depth
depth_after (suc depth) rolls_back = depth
depth_after depth _ = depth

-- the depth never falls below 0 nor passes 100
abbrev pub StaysWithin : ℕ → List Step → Type 0
StaysWithin depth [] = Unit {0}
StaysWithin depth (step ∷ steps) = IsWithin depth step × StaysWithin (depth_after depth step) steps

-- a step on named savepoints, by the ANSI text at the present depth
abbrev pub named_step : Step → Named → Named
named_step begins state = ran (begin_at state.depth) state
named_step (writes key value) state = wrote key value state
named_step commits state = ran (commit_at state.depth) state
named_step rolls_back state = ran (rollback_at state.depth) state
named_step (others_change rows) state = record state { rows = rows }

-- a step on nested levels
abbrev pub nested_step : Step → Nested → Nested
nested_step begins state = level_begun state
nested_step (writes key value) state = put_into state.rows state.levels key value
nested_step commits state = committed_into state.rows state.levels
nested_step rolls_back state = record state { levels = undone state.levels }
nested_step (others_change rows) state = record state { rows = rows }

-- the steps in order
abbrev pub named_run : List Step → Named → Named
named_run [] state = state
named_run (step ∷ steps) state = named_run steps (named_step step state)

-- the steps in order
abbrev pub nested_run : List Step → Nested → Nested
nested_run [] state = state
nested_run (step ∷ steps) state = nested_run steps (nested_step step state)

-- the same committed rows, the same depth, and the own writes those of the innermost level
pub record SeesAlike (named : Named) (nested : Nested) : Type 0 where
  pub rows : named.rows ≡ nested.rows
  pub depth : named.depth ≡ length nested.levels
  pub own : named.own ≡ current nested.levels

-- whatever the rows and the steps that stay within, both see alike after them
abbrev pub LevelsAgree : Type 0
LevelsAgree = (rows : Rows) (steps : List Step) → StaysWithin 0 steps → SeesAlike (named_run steps (named_over rows)) (nested_run steps (nested_over rows))
