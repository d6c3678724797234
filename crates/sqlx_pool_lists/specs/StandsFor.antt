-- When a pool's value is what a list of marks comes to.
use Rattle.std.specs.Prelude.{◌≡◌, ◌≤◌, List, map, All, ⊤}
use Rattle.std.specs.List.{list_any}
use Rattle.sqlx_pool_marks.specs.declared.mark.Mark.{Mark}
use Rattle.sqlx_pool_lists.specs.declared.steps.Idle.{Idle}
use Rattle.sqlx_pool_lists.specs.declared.ticket.Ticket.{Ticket}
use Rattle.sqlx_pool_lists.specs.declared.ticket.OwnedConn.{OwnedConn}
use Rattle.sqlx_pool_lists.specs.declared.ticket.Phase.{Phase}
use Rattle.sqlx_pool_lists.specs.declared.ticket.Phase.TheVariants as phase
use Rattle.sqlx_pool_marks.specs.Marks.{tickets_of, loans_of, idle_of, leaked_of, is_shut, next_ticket, next_conn}
use Rattle.sqlx_pool_marks.specs.Born.{IsBorn, IsNamedBelow}
use Rattle.sqlx_pool_lists.specs.Core.{Core, asking, loan, resting}

-- a connection under test was opened at the moment that the ticket keeps, and isn't gone
abbrev pub IsTestedBorn : List Mark → Phase → Type 0
IsTestedBorn marks (phase.Testing c created before) = IsBorn marks c created.0
IsTestedBorn marks other = ⊤

-- A pool stands for its own log, be it alone or not: it has the tickets, loans, idle connections and leaks of these marks, is shut as they say, and they name no number that is still to come; it keeps when each of its connections was opened.
pub record StandsIn {C : Type 0} (core : Core C) (marks : List Mark) : Type 0 where
  pub tickets : map asking core.tickets ≡ tickets_of marks
  pub loans : map loan core.held ≡ loans_of marks
  pub idle : map resting core.idle ≡ idle_of marks
  pub leaked : core.leaked ≡ leaked_of marks
  pub shut : core.shut ≡ list_any is_shut marks
  pub ticket_number : next_ticket marks ≤ core.next_ticket
  pub conn_number : next_conn marks ≤ core.next_conn
  pub named : All (IsNamedBelow core.next_ticket core.next_conn) marks
  pub held_born : All (λ (h : OwnedConn). IsBorn marks h.conn h.created.0) core.held
  pub idle_born : All (λ (i : Idle C). IsBorn marks i.lent.id i.lent.created.0) core.idle
  pub tested_born : All (λ (t : Ticket). IsTestedBorn marks t.phase) core.tickets

-- A lone pool stands for its log: the numbers that come next are those of the marks too, it owns all its permits, and it counts as closed where it is shut.
pub record StandsFor {C : Type 0} (core : Core C) (marks : List Mark) : Type 0 where
  pub tickets : map asking core.tickets ≡ tickets_of marks
  pub loans : map loan core.held ≡ loans_of marks
  pub idle : map resting core.idle ≡ idle_of marks
  pub leaked : core.leaked ≡ leaked_of marks
  pub shut : core.shut ≡ list_any is_shut marks
  pub ticket_number : core.next_ticket ≡ next_ticket marks
  pub conn_number : core.next_conn ≡ next_conn marks
  pub named : All (IsNamedBelow core.next_ticket core.next_conn) marks
  pub held_born : All (λ (h : OwnedConn). IsBorn marks h.conn h.created.0) core.held
  pub idle_born : All (λ (i : Idle C). IsBorn marks i.lent.id i.lent.created.0) core.idle
  pub tested_born : All (λ (t : Ticket). IsTestedBorn marks t.phase) core.tickets
  pub permits : core.permits ≡ core.options.max_connections
  pub closed : core.closed ≡ core.shut
