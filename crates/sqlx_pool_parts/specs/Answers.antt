-- What is asked of the answers of steps.
use Rattle.std.specs.Prelude.{◌≡◌, ℕ, ◌+◌, ⊤, Bool, true, false, List, Option, Some, None}
use Rattle.std.specs.List.{list_any}
use Rattle.sqlx_pool_marks.specs.declared.mark.Mark.{Mark}
use Rattle.sqlx_pool_marks.specs.Marks.{is_open, is_shut, next_ticket}
use Rattle.sqlx_pool_lists.specs.Core.{Core}
use Rattle.sqlx_pool_lists.specs.declared.steps.Lent.{Lent}
use Rattle.sqlx_pool_lists.specs.declared.steps.Verdict.{Verdict}
use Rattle.sqlx_pool_lists.specs.declared.ticket.Phase.{Phase}
use Rattle.sqlx_pool_lists.specs.PollSteps.{judged, may_test_next, serve_marks, test_answer, tested_at}
use Rattle.sqlx_pool_parts.specs.State.{PoolState}
use Rattle.sqlx_pool_lists.specs.declared.steps.AfterTest.{AfterTest}
use Rattle.sqlx_pool_lists.specs.declared.steps.AfterTest.TheVariants as tested
use Rattle.sqlx_pool_lists.specs.declared.steps.Tried.{Tried}
use Rattle.sqlx_pool_lists.specs.declared.steps.Tried.TheVariants as tried
use Rattle.sqlx_pool_lists.specs.declared.steps.AfterConnect.{AfterConnect}
use Rattle.sqlx_pool_lists.specs.declared.steps.AfterConnect.TheVariants as connected

-- the ticket of an ask: it is the one that comes next, and the pool is open
abbrev pub IsNextTicket : {C O : Type 0} → ℕ → PoolState C O → Type 0
IsNextTicket ticket state = (is_open state.marks ≡ true) × (ticket ≡ next_ticket state.marks)

-- the marks of an ask at a moment that is served at once with a connection, and none where there is none
abbrev pub marks_served : {C : Type 0} → ℕ → ℕ → Core C → Option (Lent C) → List Mark
marks_served client moment core lent = serve_marks client core.next_ticket (moment + core.options.acquire_timeout) lent

-- what a test of a connection answers in a pool, to a ticket in this phase
abbrev pub test_answer_in : {C O : Type 0} → PoolState C O → Verdict C → Option Phase → AfterTest C
test_answer_in state verdict phase = test_answer (tested_at (judged verdict) phase) (list_any is_shut state.marks) (may_test_next state.core.options.idle_tries phase) state.core.idle verdict

module _ {C : Type 0} where
  -- the test lends its connection
  abbrev pub lends_tested : AfterTest C → Bool
  lends_tested (tested.Ready lent) = true
  lends_tested other = false

  -- P of the connection that a test lends, if it does
  abbrev pub IfTestLends : AfterTest C → (Lent C → Type 0) → Type 0
  IfTestLends (tested.Ready lent) P = P lent
  IfTestLends other P = ⊤

  -- the try lends its connection
  abbrev pub lends_new : AfterConnect C → Bool
  lends_new (connected.Ready lent) = true
  lends_new other = false

  -- P of the connection that a try lends, if it does
  abbrev pub IfTryLends : AfterConnect C → (Lent C → Type 0) → Type 0
  IfTryLends (connected.Ready lent) P = P lent
  IfTryLends other P = ⊤

  -- P of the connection that a try opened, if it did
  abbrev pub IfTried : Tried C → (C → Type 0) → Type 0
  IfTried (tried.Opened raw) P = P raw
  IfTried other P = ⊤

  -- the connection that is lent past the line, without its share
  abbrev pub lent_alone : {S : Type 0} → Option (Lent C × S) → Option (Lent C)
  lent_alone None = None
  lent_alone (Some (lent, share)) = Some lent

  -- the try was refused for good
  abbrev pub is_fatal : Tried C → Bool
  is_fatal tried.Fatal = true
  is_fatal other = false

  -- the ticket ended by a try that was refused for good
  abbrev pub is_ended : AfterConnect C → Bool
  is_ended connected.Ended = true
  is_ended other = false
