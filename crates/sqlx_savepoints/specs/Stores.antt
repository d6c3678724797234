-- Nested levels on several connections over the same committed rows.
use Rattle.std.specs.Prelude.{◌≡◌, ℕ, ◌==◌, ◌<◌, ◌≤◌, false, if◌then◌else◌, ℤ, List, [], ◌∷◌, length}
use Rattle.std.specs.FinMap.{empty}
use Rattle.sqlx_savepoints.specs.Rows.{Rows, Writes, sees}
use Rattle.sqlx_savepoints.specs.NestedLevels.{Nested, current}
use Rattle.sqlx_savepoints.specs.Levels.{Step, begins, nested_step}
use Rattle.sqlx_savepoints.specs.Levels as levels
use Rattle.sqlx_savepoints.specs.Changes.{Change, opens, writes, commits, rolls_back, leaves, History}
use Rattle.sqlx_savepoints.specs.Brackets.{depth, value}

-- the committed rows, and the levels of each connection with the innermost first
pub record Store : Type 0 where
  pub rows : Rows
  pub levels : ℕ → List Writes

-- no rows, no levels
abbrev pub new_store : Store
new_store = record { rows = empty; levels = λ c. [] }

-- the levels with those of one connection replaced
abbrev pub with_levels : ℕ → List Writes → (ℕ → List Writes) → ℕ → List Writes
with_levels c new levels d = if d == c then new else levels d

-- one connection of the store
abbrev pub nested_at : ℕ → Store → Nested
nested_at c store = record { rows = store.rows; levels = store.levels c }

-- the store with one connection changed
abbrev pub on : ℕ → (Nested → Nested) → Store → Store
on c step store = record { rows = (step (nested_at c store)).rows; levels = with_levels c (step (nested_at c store)).levels store.levels }

-- every level of a connection dropped
abbrev pub all_dropped : Nested → Nested
all_dropped state = record state { levels = [] }

-- the store after a change
abbrev pub changed : Store → Change → Store
changed store (opens c) = on c (nested_step begins) store
changed store (writes c key value) = on c (nested_step (levels.writes key value)) store
changed store (commits c) = on c (nested_step levels.commits) store
changed store (rolls_back c) = on c (nested_step levels.rolls_back) store
changed store (leaves c) = on c all_dropped store

-- the store after a history
abbrev pub store_after : History → Store
store_after [] = new_store
store_after (change ∷ past) = changed (store_after past) change

-- whether the change may come: no level above 100, no write beside another connection's open bracket, nothing to end that isn't open
abbrev pub IsAccepted : History → Change → Type 0
IsAccepted past (opens c) = depth c past < 100
IsAccepted past (writes c key value) = (other : ℕ) → (other == c) ≡ false → depth other past ≡ 0
IsAccepted past (commits c) = 1 ≤ depth c past
IsAccepted past (rolls_back c) = 1 ≤ depth c past
IsAccepted past (leaves c) = Unit {0}

-- each change of the history came where it may
abbrev pub AreAccepted : History → Type 0
AreAccepted [] = Unit {0}
AreAccepted (change ∷ past) = IsAccepted past change × AreAccepted past

-- the store has the depth of every connection, and every reader sees the value of every key
pub record ReadsAlike (history : History) (store : Store) : Type 0 where
  pub depths : (c : ℕ) → length (store.levels c) ≡ depth c history
  pub values : (reader : ℕ) (key : ℤ) → sees (current (store.levels reader)) store.rows key ≡ value reader key history
