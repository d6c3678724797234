-- What holds of every core's value by itself, without a word of marks.
use Rattle.std.specs.Prelude.{◌≡◌, ℕ, ◌+◌, ◌^◌, ◌<◌, ◌≤◌, Bool, false, ◌==◌, if◌then◌else◌, List, [], ◌∷◌, map, count_by}
use Rattle.sqlx_pool_lists.specs.declared.ticket.Ticket.{Ticket}
use Rattle.sqlx_pool_lists.specs.declared.ticket.OwnedConn.{OwnedConn}
use Rattle.sqlx_pool_lists.specs.declared.ticket.Phase.{Phase}
use Rattle.sqlx_pool_lists.specs.declared.ticket.Phase.TheVariants as phase
use Rattle.sqlx_pool_lists.specs.declared.steps.Idle.{Idle}
use Rattle.sqlx_pool_lists.specs.Core.{Core, size, taken}

-- the numbers rise, from low on and below high
abbrev pub IsRising : ℕ → List ℕ → ℕ → Type 0
IsRising low [] high = low ≤ high
IsRising low (n ∷ rest) high = (low ≤ n) × IsRising (n + 1) rest high

-- the number of a ticket
abbrev pub number_of : Ticket → ℕ
number_of t = t.number

-- this connection is under test in this phase
abbrev pub is_tested : ℕ → Phase → Bool
is_tested c (phase.Testing d created before) = c == d
is_tested c other = false

-- the ticket has this connection under test
abbrev pub tests : ℕ → Ticket → Bool
tests c t = is_tested c t.phase

-- the loan is of this connection
abbrev pub holds : ℕ → OwnedConn → Bool
holds c h = c == h.conn

-- it is this connection that rests
abbrev pub rests : {C : Type 0} → ℕ → Idle C → Bool
rests c i = c == i.lent.id

-- at how many places the connection is: under test, owned or idle
abbrev pub places_of : {C : Type 0} → ℕ → List Ticket → List OwnedConn → List (Idle C) → ℕ
places_of c tickets held idle = count_by (tests c) tickets + count_by (holds c) held + count_by (rests c) idle

-- The pool keeps its maximum, numbers tickets and connections in rising order, and has each connection at one place at most.
pub record IsSound {C : Type 0} (core : Core C) : Type 0 where
  pub some : 1 ≤ core.options.max_connections
  pub few : core.options.max_connections < 2 ^ 32
  pub tries : 1 ≤ core.options.idle_tries
  pub few_tries : core.options.idle_tries ≤ 16
  pub rising : IsRising 1 (map number_of core.tickets) core.next_ticket
  pub within : size core ≤ core.options.max_connections
  pub paid : taken core ≤ core.permits
  pub owns : core.permits ≤ core.options.max_connections
  pub own : core.closed ≡ false → core.shut ≡ false
  pub few_tickets : core.next_ticket ≤ 2 ^ 63 + 1
  pub numbers : 1 ≤ core.next_conn
  pub once : (c : ℕ) → places_of c core.tickets core.held core.idle ≤ 1
  pub opened : (c : ℕ) → core.next_conn ≤ c → places_of c core.tickets core.held core.idle ≡ 0

-- What callers know of its numbers: those of the tickets rise, each connection has one below the next and is at one place at most, and a poll tests one connection at least.
pub record IsNumbered {C : Type 0} (core : Core C) : Type 0 where
  pub rising : IsRising 1 (map number_of core.tickets) core.next_ticket
  pub once : (c : ℕ) → places_of c core.tickets core.held core.idle ≤ 1
  pub opened : (c : ℕ) → core.next_conn ≤ c → places_of c core.tickets core.held core.idle ≡ 0
  pub tries : 1 ≤ core.options.idle_tries

-- how many idle connections there must be room for: none in a closed pool, which keeps none
abbrev pub room_to_rest : Bool → ℕ → ℕ
room_to_rest shut max = if shut then 0 else max

-- The memory for owned and for idle connections is there from the start.
pub record HasRoom (max : ℕ) (shut : Bool) (held_room idle_room : ℕ) : Type 0 where
  pub to_hold : max ≤ held_room
  pub to_rest : room_to_rest shut max ≤ idle_room
