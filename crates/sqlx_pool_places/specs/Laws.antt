-- What the edge says of the order of the tickets.
use Rattle.std.specs.Prelude.{◌≡◌, ℕ, ◌+◌, ◌<◌, true, nat_lt, min, length}
use Rattle.std.specs.List.Sorted.{IsStrictlyIncreasing}
use Rattle.sqlx_pool_places.specs.Line.{TicketLine, is_waiting, is_below_edge, before, entitled, beyond, take_answer, without, advanced}
use Rattle.sqlx_pool_places.specs.declared.took.Took.TheVariants.{Taken}

-- as many tickets are entitled as the lesser of those that wait and the permits that are free
abbrev pub IsServed : ℕ → TicketLine → Type 0
IsServed free line = entitled line ≡ min (length line.waiting) free

-- A waiting ticket is below the edge exactly where fewer waiting tickets precede it than permits are free.
abbrev pub EdgeTellsTheOrder : Type 0
EdgeTellsTheOrder = (free t : ℕ) (line : TicketLine) → IsServed free line → is_waiting t line ≡ true → is_below_edge t line ≡ nat_lt (before t line) free

-- One more permit is free, and the edge moves once.
abbrev pub OneMoveAPermit : Type 0
OneMoveAPermit = (free : ℕ) (line : TicketLine) → IsStrictlyIncreasing line.waiting → IsServed free line → 0 < beyond line → IsServed (free + 1) (advanced line)

-- An entitled ticket leaves the line, and with it goes a permit.
abbrev pub LeavesWithAPermit : Type 0
LeavesWithAPermit = (free t : ℕ) (line : TicketLine) → IsStrictlyIncreasing line.waiting → IsServed (free + 1) line → take_answer t line ≡ Taken → IsServed free (without t line)
