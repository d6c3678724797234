-- Committed rows, a connection's own writes, and what a reader sees of both.
use Rattle.std.specs.Prelude.{ℤ, Option, Some, None, List, [], ◌∷◌}
use Rattle.std.specs.Ordering.{int_cmp}
use Rattle.std.specs.FinMap.{FinMap, get, insert, remove, entries}

-- committed rows: a finite map from keys to values
abbrev pub Rows : Type 0
Rows = FinMap int_cmp ℤ

-- own writes: a finite map from keys to the value written, or to none where the key was deleted
abbrev pub Writes : Type 0
Writes = FinMap int_cmp (Option ℤ)

-- the rows after one write of the key
abbrev pub written : ℤ → Option ℤ → Rows → Rows
written key (Some value) rows = insert rows key value
written key None rows = remove rows key

-- the rows after these writes, the last of the list first
abbrev pub all_written : List (ℤ × Option ℤ) → Rows → Rows
all_written [] rows = rows
all_written (write ∷ writes) rows = written write.0 write.1 (all_written writes rows)

-- the own writes laid over the rows
unfoldable pub laid : Writes → Rows → Rows
laid own rows = all_written (entries own) rows

-- the own write of a key where there is one, else the row
abbrev pub seen : Option (Option ℤ) → Option ℤ → Option ℤ
seen (Some value) below = value
seen None below = below

-- the value of the key that a reader with these own writes sees
abbrev pub sees : Writes → Rows → ℤ → Option ℤ
sees own rows key = seen (get own key) (get rows key)
