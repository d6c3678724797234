-- What each step makes of a core's value.
use Rattle.std.specs.Prelude.{ℕ, ◌+◌, Bool, not, ◌==◌, List, [], ◌∷◌, ◌++◌, Some, None, if◌then◌else◌, filter, map, drop}
use Rattle.sqlx_text.specs.declared.Moment.{Moment}
use Rattle.sqlx_pool_lists.specs.declared.ticket.Ticket.{Ticket}
use Rattle.sqlx_pool_lists.specs.declared.ticket.OwnedConn.{OwnedConn}
use Rattle.sqlx_pool_lists.specs.declared.ticket.Phase.{Phase}
use Rattle.sqlx_pool_lists.specs.declared.ticket.Phase.TheVariants as phase
use Rattle.sqlx_pool_lists.specs.declared.steps.Lent.{Lent}
use Rattle.sqlx_pool_lists.specs.declared.steps.Idle.{Idle}
use Rattle.sqlx_pool_lists.specs.Core.{Core}

-- ---- of lists

-- it has another number
abbrev pub is_another_ticket : ℕ → Ticket → Bool
is_another_ticket t x = not (t == x.number)

-- the other tickets
abbrev pub without_ticket : ℕ → List Ticket → List Ticket
without_ticket t tickets = filter (is_another_ticket t) tickets

-- this ticket changed, the others as they are
abbrev pub with_ticket : ℕ → (Ticket → Ticket) → List Ticket → List Ticket
with_ticket t change tickets = map (λ x. if t == x.number then change x else x) tickets

-- it is of another connection
abbrev pub is_another_loan : ℕ → OwnedConn → Bool
is_another_loan c h = not (c == h.conn)

-- the loans of other connections
abbrev pub without_loan : ℕ → List OwnedConn → List OwnedConn
without_loan c held = filter (is_another_loan c) held

-- it is another connection
abbrev pub is_another_idle : {C : Type 0} → ℕ → Idle C → Bool
is_another_idle c i = not (c == i.lent.id)

-- the other idle connections
abbrev pub without_idle : {C : Type 0} → ℕ → List (Idle C) → List (Idle C)
without_idle c idle = filter (is_another_idle c) idle

-- ---- of a ticket

-- it left the line at this moment, and its connection is tested
abbrev pub to_test : {C : Type 0} → ℕ → Idle C → Ticket → Ticket
to_test m i x = record x { phase = phase.Testing i.lent.id i.lent.created 0; first_try = record { 0 = m }; last_wait = None }

-- how many connections were tested in this poll, where the one under test is refused
abbrev pub tested_so_far : Phase → ℕ
tested_so_far (phase.Testing c created before) = before + 1
tested_so_far other = 0

-- its connection was refused: this idle one is tested next
abbrev pub to_next : {C : Type 0} → Idle C → Ticket → Ticket
to_next i x = record x { phase = phase.Testing i.lent.id i.lent.created (tested_so_far x.phase) }

-- its connection was refused: it connects
abbrev pub to_connect : Ticket → Ticket
to_connect x = record x { phase = phase.Connecting }

-- it connects; where it waited, it left the line at this moment
abbrev pub to_try_at : ℕ → Phase → Ticket → Ticket
to_try_at m phase.Waiting x = record x { phase = phase.Connecting; first_try = record { 0 = m }; last_wait = None }
to_try_at m other x = to_connect x

-- it connects; where it waited, it left the line at this moment
abbrev pub to_try : ℕ → Ticket → Ticket
to_try m x = to_try_at m x.phase x

-- its try was refused and made it wait so long, until then
abbrev pub to_back_off : ℕ → ℕ → Ticket → Ticket
to_back_off wait until x = record x { phase = phase.Backoff until; last_wait = Some wait }

-- ---- of a core

-- the ticket ended
abbrev pub core_without_ticket : {C : Type 0} → ℕ → Core C → Core C
core_without_ticket t core = record core { tickets = without_ticket t core.tickets }

-- the client owns the connection
abbrev pub lent_to : {C : Type 0} → ℕ → ℕ → Moment → Core C → Core C
lent_to k c created core = record core { held = core.held ++ (record { conn = c; client = k; created = created }) ∷ [] }

-- nobody owns the connection
abbrev pub core_without_loan : {C : Type 0} → ℕ → Core C → Core C
core_without_loan c core = record core { held = without_loan c core.held }

-- the connection rests since this moment, as the last of the idle
abbrev pub kept : {C : Type 0} → Lent C → ℕ → Core C → Core C
kept lent m core = record core { idle = core.idle ++ (record { lent = lent; since = record { 0 = m } }) ∷ [] }

-- the first idle connection was taken
abbrev pub core_without_first : {C : Type 0} → Core C → Core C
core_without_first core = record core { idle = drop 1 core.idle }

-- the last moment is this one
abbrev pub at_moment : {C : Type 0} → ℕ → Core C → Core C
at_moment m core = record core { last = m }

-- a ticket was asked
abbrev pub asked : {C : Type 0} → ℕ → ℕ → Core C → Core C
asked k deadline core = record core {
  tickets = core.tickets ++ (record { number = core.next_ticket; client = k; deadline = deadline; phase = phase.Waiting; first_try = record { 0 = 0 }; last_wait = None }) ∷ [];
  next_ticket = core.next_ticket + 1;
}

-- the ask of this ticket never was: its number comes next again, and the last moment is the one before
abbrev pub unasked : {C : Type 0} → ℕ → ℕ → Core C → Core C
unasked t m core = record core { tickets = without_ticket t core.tickets; next_ticket = t; last = m }

-- a connection was opened and numbered
abbrev pub opened : {C : Type 0} → Core C → Core C
opened core = record core { next_conn = core.next_conn + 1 }
