-- Nested levels without names: a list of own writes, one for each open level.
use Rattle.std.specs.Prelude.{ℤ, Option, List, [], ◌∷◌}
use Rattle.std.specs.FinMap.{empty, insert}
use Rattle.sqlx_savepoints.specs.Rows.{Rows, Writes, written, laid}

-- the committed rows, and the own writes of each level with the innermost first
pub record Nested : Type 0 where
  pub rows : Rows
  pub levels : List Writes

-- no level
abbrev pub nested_over : Rows → Nested
nested_over rows = record { rows = rows; levels = [] }

-- the own writes of the innermost level, none outside any
abbrev pub current : List Writes → Writes
current [] = empty
current (own ∷ outer) = own

-- a level begun as a copy of the innermost one
abbrev pub level_begun : Nested → Nested
level_begun state = record state { levels = current state.levels ∷ state.levels }

-- a write into the innermost level, or into the rows where there is none
abbrev pub put_into : Rows → List Writes → ℤ → Option ℤ → Nested
put_into rows [] key value = record { rows = written key value rows; levels = [] }
put_into rows (own ∷ outer) key value = record { rows = rows; levels = insert own key value ∷ outer }

-- the innermost level takes the place of the one around it; the outermost one is laid over the rows
abbrev pub committed_into : Rows → List Writes → Nested
committed_into rows [] = record { rows = rows; levels = [] }
committed_into rows (own ∷ []) = record { rows = laid own rows; levels = [] }
committed_into rows (own ∷ next ∷ outer) = record { rows = rows; levels = own ∷ outer }

-- the innermost level dropped
abbrev pub undone : List Writes → List Writes
undone [] = []
undone (own ∷ outer) = outer
