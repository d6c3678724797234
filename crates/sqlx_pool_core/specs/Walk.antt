-- A whole poll: its steps in the pool, with the calls of the outside between them.
use Rattle.std.specs.Prelude.{◌≡◌, ℕ, ⊤, false, Some, List, [], ◌∷◌, ◌++◌}
use Rattle.sqlx_pool_marks.specs.declared.mark.Mark.{Mark}
use Rattle.sqlx_pool_lists.specs.declared.steps.Idle.{Idle}
use Rattle.sqlx_pool_lists.specs.declared.steps.Start.{Start}
use Rattle.sqlx_pool_lists.specs.declared.steps.Start.TheVariants as start
use Rattle.sqlx_pool_lists.specs.declared.steps.Verdict.{Verdict}
use Rattle.sqlx_pool_lists.specs.declared.steps.AfterTest.{AfterTest}
use Rattle.sqlx_pool_lists.specs.declared.steps.AfterTest.TheVariants as tested
use Rattle.sqlx_pool_lists.specs.declared.steps.Tried.{Tried}
use Rattle.sqlx_pool_lists.specs.declared.steps.Tried.TheVariants as tried
use Rattle.sqlx_pool_lists.specs.declared.steps.AfterConnect.{AfterConnect}
use Rattle.sqlx_pool_lists.specs.declared.steps.AfterConnect.TheVariants as connected
use Rattle.sqlx_pool_lists.specs.declared.steps.Polled.{Polled}
use Rattle.sqlx_pool_lists.specs.declared.steps.Polled.TheVariants as polled
use Rattle.sqlx_pool_lists.specs.declared.ticket.Ticket.{Ticket}
use Rattle.sqlx_pool_lists.specs.Core.{Core, ticket_of}
use Rattle.sqlx_pool_lists.specs.PollSteps.{phase_for, start_answer, start_marks, started, may_test_next, test_answer, test_marks, after_test, try_answer, connect_marks, after_connect}
use Rattle.sqlx_pool_lists.specs.CoreTurn.{core_turn}
use Rattle.sqlx_pool_core.specs.Logs.{Logs}
use Rattle.sqlx_pool_core.specs.declared.idle_check.Opening.{Opening}
use Rattle.sqlx_pool_core.specs.declared.idle_check.Opening.TheVariants as opening
use Rattle.sqlx_pool_core.specs.Calls.{Call}
use Rattle.sqlx_pool_core.specs.Chain.{Tests, Tries}

-- What a poll does next.
pub data Next (C : Type 0) : Type 0 where
  Test : Idle C → Next C
  Connect : Next C
  Answer : Polled C → Next C

-- by the pool's first step
abbrev pub first : {C : Type 0} → Start C → Next C
first start.NotHeld = Answer polled.NotHeld
first start.Closed = Answer polled.Closed
first start.TimedOut = Answer polled.TimedOut
first start.Exhausted = Answer polled.Exhausted
first start.Waiting = Answer polled.Waiting
first (start.Backoff until) = Answer (polled.Backoff until)
first (start.Test i) = Test i
first start.Connect = Connect

-- P of the answer, if the poll ends with one
abbrev pub IfAnswer : {C : Type 0} → Next C → (Polled C → Type 0) → Type 0
IfAnswer (Answer answer) P = P answer
IfAnswer other P = ⊤

-- by the pool's step after a test; the other two answers never come to a ticket that is tested
abbrev pub then_by : {C : Type 0} → AfterTest C → Next C
then_by (tested.Ready lent) = Answer (polled.Ready lent)
then_by (tested.Test i) = Test i
then_by tested.Connect = Connect
then_by other = Answer polled.NotHeld

-- what the pool is told of a try
abbrev pub tried_of : {C : Type 0} → Opening C → Tried C
tried_of (opening.Opened raw) = tried.Opened raw
tried_of opening.Rejected = tried.Rejected
tried_of opening.Transient = tried.Transient
tried_of (opening.Failed error) = tried.Fatal

-- the answer by the pool's step after a try; a connect that was refused for good hands its error on
abbrev pub last : {C : Type 0} → AfterConnect C → Opening C → Polled C
last (connected.Ready lent) opening = polled.Ready lent
last (connected.Backoff until) opening = polled.Backoff until
last connected.Ended (opening.Failed error) = polled.Refused error
last after opening = polled.NotHeld

-- the pool's step after a test of i for this ticket, in an open pool
abbrev pub judges : {C : Type 0} → ℕ → ℕ → Core C → Idle C → Verdict C → AfterTest C
judges k t core i verdict = test_answer (Some i.lent.created) false (may_test_next core.options.idle_tries (phase_for k t core.tickets)) core.idle verdict

-- the pool's step after a try for this ticket, in an open pool
abbrev pub tells : {C : Type 0} → ℕ → Ticket → Core C → Opening C → AfterConnect C
tells m x core opening = try_answer x core.next_conn m (tried_of opening)

module _ {C O X : Type 0} (does : Call C O → X → X → Type 0) (depth : X → C → ℕ) (options : O) (k t m : ℕ) where
  -- A try to open a connection for the ticket, and the pool's step after it.
  pub record Connects (core new : Core C) (old now : X) (result : Polled C) (made : List Mark) : Type 0 where
    pub x : Ticket
    pub found : ticket_of k t core.tickets ≡ Some x
    pub opening : Opening C
    pub tries : Tries does depth core.options.after_connect options opening old now
    pub answer : result ≡ last (tells m x core opening) opening
    pub becomes : new ≡ after_connect k t m (tells m x core opening) core
    pub marks : made ≡ connect_marks k t m (tells m x core opening)

  -- what a poll does from here on, by the verdicts of its tests
  abbrev pub Goes : List (Verdict C) → Next C → Core C → Core C → X → X → Polled C → List Mark → Type 0
  Goes [] (Answer answer) core new old now result made = (result ≡ answer) × (made ≡ []) × (new ≡ core) × (now ≡ old)
  Goes [] Connect core new old now result made = Connects core new old now result made
  Goes [] (Test i) core new old now result made = ⊥
  Goes (verdict ∷ verdicts) (Test i) core new old now result made = (between : X) × ((later : List Mark) × (
      Tests does depth core.options m i verdict old between
      × (made ≡ test_marks k t i.lent.id (judges k t core i verdict) ++ later)
      × Goes verdicts (then_by (judges k t core i verdict)) (after_test k t (judges k t core i verdict) core) new between now result later))
  Goes (verdict ∷ verdicts) next core new old now result made = ⊥

  -- What a poll does from here on, and the marks that it makes.
  pub record GoesOn (next : Next C) (core new : Core C) (old now : X) (result : Polled C) : Type 0 where
    pub verdicts : List (Verdict C)
    pub made : List Mark
    pub goes : Goes verdicts next core new old now result made
    pub makes : Logs core made new

  -- A whole poll.
  pub record Polls (core new : Core C) (old now : X) (result : Polled C) : Type 0 where
    pub begun : Start C
    pub step : begun ≡ start_answer (core_turn core k t m) core.idle
    pub verdicts : List (Verdict C)
    pub later : List Mark
    pub goes : Goes verdicts (first begun) (started t m begun core) new old now result later
    pub makes : Logs core (start_marks t (phase_for k t core.tickets) begun ++ later) new
