-- The value that contracts see of a pool's core.
use Rattle.std.specs.Prelude.{ℕ, ◌+◌, Bool, true, false, not, ◌&&◌, ◌==◌, List, Option, find, count_by, length}
use Rattle.sqlx_pool_lists.specs.declared.options.PoolOptions.{PoolOptions}
use Rattle.sqlx_pool_lists.specs.declared.steps.Idle.{Idle}
use Rattle.sqlx_pool_lists.specs.declared.ticket.Ticket.{Ticket}
use Rattle.sqlx_pool_lists.specs.declared.ticket.OwnedConn.{OwnedConn}
use Rattle.sqlx_pool_lists.specs.declared.ticket.Phase.{Phase}
use Rattle.sqlx_pool_lists.specs.declared.ticket.Phase.TheVariants.{Waiting}
use Rattle.sqlx_pool_marks.specs.Marks.{PendingTicket, Loan, IdleEntry}
use Rattle.sqlx_pool_marks.specs.Counts.{free_of}

-- Tickets in the order of asking, owned connections, idle ones in their order, the permits that the pool owns, and the numbers that come next. It counts as closed where it is shut, or where what it belongs to is.
pub record Core (C : Type 0) : Type 0 where
  pub options : PoolOptions
  pub tickets : List Ticket
  pub held : List OwnedConn
  pub idle : List (Idle C)
  pub leaked : ℕ
  pub shut : Bool
  pub closed : Bool
  pub places : ℕ
  pub permits : ℕ
  pub next_ticket : ℕ
  pub next_conn : ℕ
  pub last : ℕ

-- ---- what a ticket, a loan and an idle connection say of themselves

-- the ticket has left the line
abbrev pub is_out : Phase → Bool
is_out Waiting = false
is_out phase = true

-- what a ticket says of itself
abbrev pub asking : Ticket → PendingTicket
asking t = record { ticket = t.number; client = t.client; deadline = t.deadline; left = is_out t.phase }

-- what a loan says of itself
abbrev pub loan : OwnedConn → Loan
loan h = record { client = h.client; conn = h.conn }

-- what an idle connection says of itself
abbrev pub resting : {C : Type 0} → Idle C → IdleEntry
resting i = record { conn = i.lent.id; since = i.since.0 }

-- ---- counts

-- the ticket has left the line
abbrev pub has_gone : Ticket → Bool
has_gone t = is_out t.phase

-- how many tickets have left the line
abbrev pub gone : List Ticket → ℕ
gone tickets = count_by has_gone tickets

-- the ticket stands in the line
abbrev pub waits : Ticket → Bool
waits t = not (is_out t.phase)

-- how many tickets wait
abbrev pub waiting : List Ticket → ℕ
waiting tickets = count_by waits tickets

-- the free permits
abbrev pub free : {C : Type 0} → Core C → ℕ
free core = free_of core.permits (length core.held) core.leaked (gone core.tickets) core.places

-- the permits that owned and leaked connections, tickets that have left, and places have
abbrev pub taken : {C : Type 0} → Core C → ℕ
taken core = length core.held + core.leaked + gone core.tickets + core.places

-- the connections that there are or may be
abbrev pub size : {C : Type 0} → Core C → ℕ
size core = length core.idle + length core.held + core.leaked + gone core.tickets + core.places

-- ---- finding

-- it is this client's ticket of this number
abbrev pub is_of : ℕ → ℕ → Ticket → Bool
is_of k t x = (t == x.number) && (k == x.client)

-- this client's ticket of this number
abbrev pub ticket_of : ℕ → ℕ → List Ticket → Option Ticket
ticket_of k t tickets = find (is_of k t) tickets

-- it is this client's loan of this connection
abbrev pub is_held_by : ℕ → ℕ → OwnedConn → Bool
is_held_by k c h = (c == h.conn) && (k == h.client)

-- this client's loan of this connection
abbrev pub loan_of : ℕ → ℕ → List OwnedConn → Option OwnedConn
loan_of k c held = find (is_held_by k c) held

-- the value of these fields
abbrev pub core_of : {C : Type 0} → PoolOptions → List Ticket → List OwnedConn → List (Idle C) → ℕ → Bool → Bool → ℕ → ℕ → ℕ → ℕ → ℕ → Core C
core_of options tickets held idle leaked shut closed places permits next_ticket next_conn last = record {
  options = options;
  tickets = tickets;
  held = held;
  idle = idle;
  leaked = leaked;
  shut = shut;
  closed = closed;
  places = places;
  permits = permits;
  next_ticket = next_ticket;
  next_conn = next_conn;
  last = last;
}
