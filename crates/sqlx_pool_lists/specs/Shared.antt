-- What a pool hears of the pools that it shares numbers and permits with.
use Rattle.std.specs.Prelude.{ℕ, Bool, false, not, ◌&&◌, Option, Some, None, count_by, nat_lt, nat_le}
use Rattle.sqlx_pool_lists.specs.declared.shared.Shared.{Shared}
use Rattle.sqlx_pool_lists.specs.declared.ticket.Ticket.{Ticket}
use Rattle.sqlx_pool_lists.specs.Core.{Core, waits, ticket_of}

-- a pool that was told the numbers that come next and the last moment, and whether it counts as closed
abbrev pub told : {C : Type 0} → Bool → Shared → Core C → Core C
told closed shared core = record core { closed = closed; next_ticket = shared.next_ticket; next_conn = shared.next_conn; last = shared.last.0 }

-- the numbers that come next, and the last moment, as this pool knows them
abbrev pub shared_of : {C : Type 0} → Core C → Shared
shared_of core = record { next_ticket = core.next_ticket; next_conn = core.next_conn; last = record { 0 = core.last } }

-- a pool that owns so many permits
abbrev pub with_permits : {C : Type 0} → ℕ → Core C → Core C
with_permits n core = record core { permits = n }

-- the ticket waits, and has a smaller number
abbrev pub waits_before : ℕ → Ticket → Bool
waits_before t x = waits x && nat_lt x.number t

-- how many of the pool's waiting tickets have a smaller number
abbrev pub waiting_before : {C : Type 0} → ℕ → Core C → ℕ
waiting_before t core = count_by (waits_before t) core.tickets

-- the pool owns fewer permits than its maximum
abbrev pub wants_permits : {C : Type 0} → Core C → Bool
wants_permits core = nat_lt core.permits core.options.max_connections

-- the ticket waits, and its deadline isn't there at this moment
abbrev pub is_in_time : ℕ → Option Ticket → Bool
is_in_time moment None = false
is_in_time moment (Some x) = waits x && not (nat_le x.deadline moment)

-- the client's ticket waits in time
abbrev pub waits_in_time : {C : Type 0} → ℕ → ℕ → ℕ → Core C → Bool
waits_in_time k t moment core = is_in_time moment (ticket_of k t core.tickets)
