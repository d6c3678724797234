-- A line of waiting tickets, the edge in it, and what its calls make of it.
use Rattle.std.specs.Prelude.{◌≡◌, ℕ, ◌+◌, ◌-◌, ◌<◌, ◌≤◌, ◌^◌, ◌==◌, not, Bool, nat_lt, if◌then◌else◌, List, [], ◌∷◌, ◌++◌, length, filter, find, count_by, Option, Some, None}
use Rattle.std.specs.List.{All, list_any}
use Rattle.std.specs.List.Sorted.{IsStrictlySortedBy}
use Rattle.std.specs.Ordering.{nat_cmp}
use Rattle.sqlx_pool_places.specs.declared.rising_places.Place.{Place}
use Rattle.sqlx_pool_places.specs.Rising.{IsRising, things_at}
use Rattle.sqlx_pool_places.specs.declared.took.Took.{Took}
use Rattle.sqlx_pool_places.specs.declared.took.Took.TheVariants.{Absent, Beyond, Taken}

-- the numbers of the tickets that wait, rising; the edge; and how often it moved
pub record TicketLine : Type 0 where
  pub waiting : List ℕ
  pub edge : ℕ
  pub moves : ℕ

-- the line of these fields
abbrev pub line_of : List ℕ → ℕ → ℕ → TicketLine
line_of waiting edge moves = record { waiting = waiting; edge = edge; moves = moves }

-- a line in which nobody waits
abbrev pub no_line : TicketLine
no_line = line_of [] 0 0

-- ---- reading

-- the ticket waits
abbrev pub is_waiting : ℕ → TicketLine → Bool
is_waiting t line = list_any (λ n. n == t) line.waiting

-- the number is below the edge: a waiting ticket of this number is entitled
abbrev pub is_below_edge : ℕ → TicketLine → Bool
is_below_edge t line = nat_lt t line.edge

-- how many waiting tickets precede this one
abbrev pub before : ℕ → TicketLine → ℕ
before t line = count_by (λ n. nat_lt n t) line.waiting

-- how many waiting tickets are entitled
abbrev pub entitled : TicketLine → ℕ
entitled line = before line.edge line

-- how many aren't
abbrev pub beyond : TicketLine → ℕ
beyond line = length line.waiting - entitled line

-- the first waiting ticket that isn't entitled
abbrev pub first_beyond : TicketLine → Option ℕ
first_beyond line = find (λ n. not (nat_lt n line.edge)) line.waiting

-- ---- what the calls make of it

-- The number is behind all that wait, and not below the edge.
pub record ComesLast (t : ℕ) (line : TicketLine) : Type 0 where
  pub behind : All (λ n. n < t) line.waiting
  pub beyond : line.edge ≤ t

-- the ticket waits behind all others
abbrev pub pushed : ℕ → TicketLine → TicketLine
pushed t line = record line { waiting = line.waiting ++ t ∷ [] }

-- the ticket doesn't wait any more
abbrev pub without : ℕ → TicketLine → TicketLine
without t line = record line { waiting = filter (λ n. not (n == t)) line.waiting }

-- the edge just behind a ticket
abbrev pub passed : Option ℕ → TicketLine → TicketLine
passed None line = line
passed (Some n) line = record line { edge = n + 1; moves = line.moves + 1 }

-- the edge passes the first waiting ticket that isn't entitled
abbrev pub advanced : TicketLine → TicketLine
advanced line = passed (first_beyond line) line

-- what taking a ticket comes to
abbrev pub take_answer : ℕ → TicketLine → Took
take_answer t line = if is_waiting t line then (if is_below_edge t line then Taken else Beyond) else Absent

-- the line after a ticket was to be taken
abbrev pub after_take : ℕ → Took → TicketLine → TicketLine
after_take t Taken line = without t line
after_take t Beyond line = line
after_take t Absent line = line

-- ---- what holds of every line

-- The tickets rise and leave room for an edge behind them, those below the edge are counted, each move of the edge raised it, and each ticket that is entitled took one.
pub record IsSound (waiting : List ℕ) (counted edge moves : ℕ) : Type 0 where
  pub rising : IsStrictlySortedBy nat_cmp waiting
  pub numbered : All (λ n. n < 2 ^ 64 - 1) waiting
  pub counted_right : counted ≡ entitled (line_of waiting edge moves)
  pub few_moves : moves ≤ edge
  pub few_entitled : counted ≤ moves

-- The numbers rise at their places, those that wait are counted, and the line of them is sound.
pub record IsKept (places : List (Place ℕ)) (counted entitled edge moves : ℕ) : Type 0 where
  pub rising : IsRising (λ n. n) places
  pub counted_right : counted ≡ length (things_at places)
  pub sound : IsSound (things_at places) entitled edge moves
