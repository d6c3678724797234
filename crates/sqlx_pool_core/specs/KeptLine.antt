-- The line of a lone pool's waiting tickets, kept as an edge, and what a step may look at it.
use Rattle.std.specs.Prelude.{◌≡◌, ℕ, ◌+◌, ◌-◌, ◌<◌, ◌≤◌, ◌⊎◌, Bool, true, false, List, map, filter, min, length}
use Rattle.sqlx_pool_places.specs.Line.{TicketLine, entitled, beyond, without, is_below_edge}
use Rattle.sqlx_pool_places.specs.Laws.{IsServed}
use Rattle.sqlx_pool_lists.specs.declared.ticket.Ticket.{Ticket}
use Rattle.sqlx_pool_lists.specs.declared.steps.Start.{Start}
use Rattle.sqlx_pool_lists.specs.declared.steps.Start.TheVariants as start
use Rattle.sqlx_pool_lists.specs.Core.{Core, waits, waiting, free}
use Rattle.sqlx_pool_lists.specs.Sound.{number_of}
use Rattle.sqlx_pool_core.specs.Alone.{IsAlone}
use Rattle.sqlx_pool_core.specs.LonePool.{LonePool, KeepsEntitled, is_entitled}

-- the numbers of the tickets that wait
abbrev pub waiting_numbers : List Ticket → List ℕ
waiting_numbers tickets = map number_of (filter waits tickets)

-- The line has the numbers of the waiting tickets, as many are entitled as the lesser of those and the free permits, and the edge moved at most once for each ticket that was asked and isn't left behind it.
pub record IsLined {C : Type 0} (core : Core C) (line : TicketLine) : Type 0 where
  pub numbers : line.waiting ≡ waiting_numbers core.tickets
  pub served : IsServed (free core) line
  pub edge : line.edge ≤ core.next_ticket
  pub few_moves : line.moves + beyond line < core.next_ticket

-- The same, but for one ticket that may be entitled and isn't yet.
pub record IsNearlyLined {C : Type 0} (core : Core C) (line : TicketLine) : Type 0 where
  pub numbers : line.waiting ≡ waiting_numbers core.tickets
  pub enough : entitled line ≤ free core
  pub near : min (length line.waiting) (free core) ≤ entitled line + 1
  pub edge : line.edge ≤ core.next_ticket
  pub few_moves : line.moves + beyond line < core.next_ticket

-- A pool that is alone, and the line that it keeps.
pub record IsLone {C : Type 0} (core : Core C) (line : TicketLine) : Type 0 where
  pub alone : IsAlone core
  pub lined : IsLined core line

-- how many tickets were let in: all that were asked but those that wait and aren't entitled
abbrev pub let_in : {C : Type 0} → Core C → ℕ
let_in core = core.next_ticket - 1 - (waiting core.tickets - free core)

-- A client's ticket is entitled that wasn't.
pub record Entitles {C : Type 0} (old new : Core C) : Type 0 where
  pub client : ℕ
  pub ticket : ℕ
  pub is : is_entitled client ticket new ≡ true
  pub was : is_entitled client ticket old ≡ false

-- A client's ticket is entitled that isn't below the edge of a line.
pub record EntitlesBeyond {C : Type 0} (core : Core C) (line : TicketLine) : Type 0 where
  pub client : ℕ
  pub ticket : ℕ
  pub is : is_entitled client ticket core ≡ true
  pub beyond : is_below_edge ticket line ≡ false

-- A step looks at the line at most once, and once more if the edge moves: then one more ticket is let in, and one is entitled that wasn't. Who was entitled stays so.
pub record Looks {C : Type 0} (old new : LonePool C) (before after : ℕ) : Type 0 where
  pub moves : after ≤ before + 1 + (new.moves - old.moves)
  pub few : after ≤ before + 2
  pub let_in : after + let_in old.pool ≤ before + 1 + let_in new.pool
  pub turns : (after ≤ before + 1) ⊎ Entitles old.pool new.pool
  pub keeps : KeepsEntitled old new

-- ---- what a poll does to the line

-- the ticket leaves the line, or ends
abbrev pub leaves : {C : Type 0} → Start C → Bool
leaves start.NotHeld = false
leaves start.Waiting = false
leaves (start.Backoff until) = false
leaves other = true

-- the line without a ticket that went
abbrev pub taken_out : Bool → ℕ → TicketLine → TicketLine
taken_out true t line = without t line
taken_out false t line = line
