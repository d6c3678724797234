-- Which connections a list of marks has opened, and which numbers it names.
use Rattle.std.specs.Prelude.{◌≡◌, ℕ, ◌<◌, List, Some, ⊤}
use Rattle.sqlx_pool_marks.specs.declared.mark.Mark.{Mark}
use Rattle.sqlx_pool_marks.specs.declared.mark.Mark.TheVariants.{Asked, Left, Taken, Reaped, Opened, Lent, Kept, Closed, Detached, Leaked, Ended, Shut}
use Rattle.sqlx_pool_marks.specs.Marks.{opened_at}

-- the mark names no ticket and no connection from these numbers on
abbrev pub IsNamedBelow : ℕ → ℕ → Mark → Type 0
IsNamedBelow tickets conns (Asked t k d) = t < tickets
IsNamedBelow tickets conns (Left t) = t < tickets
IsNamedBelow tickets conns (Taken c) = c < conns
IsNamedBelow tickets conns (Reaped c) = c < conns
IsNamedBelow tickets conns (Opened c m) = c < conns
IsNamedBelow tickets conns (Lent k c) = c < conns
IsNamedBelow tickets conns (Kept c m) = c < conns
IsNamedBelow tickets conns (Closed c) = c < conns
IsNamedBelow tickets conns (Detached c) = c < conns
IsNamedBelow tickets conns (Leaked c) = c < conns
IsNamedBelow tickets conns (Ended t) = t < tickets
IsNamedBelow tickets conns Shut = ⊤

-- the connection was opened at this moment, and isn't gone
abbrev pub IsBorn : List Mark → ℕ → ℕ → Type 0
IsBorn marks c m = opened_at c marks ≡ Some m
