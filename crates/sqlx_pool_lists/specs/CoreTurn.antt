-- The turn of a poll by the core's own lists.
use Rattle.std.specs.Prelude.{◌≡◌, ◌<◌, ℕ, Bool, true, not, ◌==◌, ◌&&◌, List, [], ◌∷◌, Option, Some, None, if◌then◌else◌, nat_lt, take_while}
use Rattle.sqlx_pool_lists.specs.declared.ticket.Ticket.{Ticket}
use Rattle.sqlx_pool_marks.specs.declared.mark.Mark.{Mark}
use Rattle.sqlx_pool_marks.specs.Marks.{next_conn}
use Rattle.sqlx_pool_marks.specs.declared.turn.Turn.{Turn}
use Rattle.sqlx_pool_marks.specs.declared.turn.Turn.TheVariants.{NotHeld}
use Rattle.sqlx_pool_marks.specs.PollTable.{turn_at_rest}
use Rattle.sqlx_pool_lists.specs.Core.{Core, is_out, is_of, waits, free, waiting, ticket_of}
use Rattle.sqlx_pool_lists.specs.PollTable.{is_at_rest, backs_off_until, phase_turn}
use Rattle.sqlx_pool_lists.specs.PollSteps.{phase_for}
use Rattle.sqlx_pool_lists.specs.Makes.{MakesWhere}

-- it has another number
abbrev pub is_another : ℕ → Ticket → Bool
is_another t x = not (t == x.number)

-- how many waiting tickets were asked before this one
abbrev pub before : ℕ → List Ticket → ℕ
before t tickets = waiting (take_while (is_another t) tickets)

-- the deadline of the client's ticket of this number, where it is the first of all and waits
abbrev pub first_deadline : ℕ → ℕ → List Ticket → Option ℕ
first_deadline k t [] = None
first_deadline k t (x ∷ rest) = if is_of k t x && waits x then Some x.deadline else None

-- the ticket is entitled by the pool's own line: fewer waiting tickets precede it than permits are free
abbrev pub is_first_in_line : {C : Type 0} → ℕ → Core C → Bool
is_first_in_line t core = nat_lt (before t core.tickets) (free core)

-- what the poll of a ticket comes to at a moment, entitled or not, in a pool that counts as closed or not
abbrev pub turn_of : {C : Type 0} → Bool → Bool → ℕ → Core C → Option Ticket → Turn
turn_of entitled closed moment core None = NotHeld
turn_of entitled closed moment core (Some x) =
    if is_at_rest x.phase then turn_at_rest moment entitled closed core.next_conn core.idle x.deadline (is_out x.phase) (backs_off_until x.phase) else NotHeld

-- what the poll of a client's ticket comes to at a moment, by the pool's own line
abbrev pub core_turn : {C : Type 0} → Core C → ℕ → ℕ → ℕ → Turn
core_turn core k t moment = turn_of (is_first_in_line t core) core.shut moment core (ticket_of k t core.tickets)

-- what it comes to by marks that the pool stands for, and the ticket's own phase
abbrev pub turn_at_marks : {C : Type 0} → Core C → List Mark → ℕ → ℕ → ℕ → Turn
turn_at_marks core marks k t moment = phase_turn core.options.max_connections core.places marks k t moment (phase_for k t core.tickets)

-- A lone pool, which owns all its permits and draws its own numbers, entitles by its own line alone.
pub record InOwnLine {C : Type 0} (core : Core C) (marks : List Mark) (t : ℕ) (entitled : Bool) : Type 0 where
  pub all : core.permits ≡ core.options.max_connections
  pub conns : core.next_conn ≡ next_conn marks
  pub first : entitled ≡ true → before t core.tickets < free core

-- What the start of a poll makes: safe marks, in order where the pool is alone and the ticket entitled by its own line.
abbrev pub StartMakes : {C : Type 0} → Core C → List Mark → ℕ → Bool → List Mark → Core C → Type 0
StartMakes core marks t entitled made new = MakesWhere (InOwnLine core marks t entitled) core.options.max_connections marks made new

-- A lone pool, which owns all its permits, lends past its own line alone: where fewer tickets wait than permits are free.
pub record PastOwnLine {C : Type 0} (core : Core C) (passes : Bool) : Type 0 where
  pub all : core.permits ≡ core.options.max_connections
  pub first : passes ≡ true → waiting core.tickets < free core
