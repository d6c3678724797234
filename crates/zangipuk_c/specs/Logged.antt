-- The log of a pool, if it keeps one.
use Rattle.std.specs.Prelude.{◌≡◌, ℕ, ◌+◌, ◌≤◌, ⊤, List, ◌++◌, length, vec_capacity, Vec, Option, Some, None}
use Rattle.std.specs.declared.alloc.Global.{Global}
use Rattle.sqlx_pool_marks.specs.declared.mark.Mark.{Mark}

-- These marks stand behind the log. Where memory is wanting for them, none is kept any more.
abbrev pub Notes : Option (Vec Mark Global) → List Mark → Option (Vec Mark Global) → Type 0
Notes (Some old) made (Some new) = new.items ≡ old.items ++ made
Notes (Some old) made None = ⊤
Notes None made (Some new) = ⊥
Notes None made None = ⊤

-- A log that is kept has room for so many marks more.
abbrev pub HasRoom : ℕ → Option (Vec Mark Global) → Option (Vec Mark Global) → Type 0
HasRoom more (Some old) (Some new) = (new.items ≡ old.items) × (length new.items + more ≤ vec_capacity new)
HasRoom more (Some old) None = ⊤
HasRoom more None (Some new) = ⊥
HasRoom more None None = ⊤
