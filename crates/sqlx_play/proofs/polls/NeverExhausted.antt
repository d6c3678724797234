-- No poll finds the numbers of connections used up, while they last.
use Rattle.std.proofs.Common.{◌≡◌, ℕ, ◌^◌, ◌≤◌, Bool, true, false, cond, List, [], ◌∷◌, Option, Some, None, nat_le, nat_lt, refl, sym, ◌∙◌}
use Rattle.std.proofs.lemmas.Bool.{le-ltb}
use Rattle.sqlx_pool_marks.specs.declared.mark.Mark.{Mark}
use Rattle.sqlx_pool_marks.specs.declared.turn.Turn.TheVariants as turn
use Rattle.sqlx_pool_marks.specs.PollTable.{first_idle, turn_at_rest}
use Rattle.sqlx_pool_core.specs.declared.idle_check.Opening.{Opening}
use Rattle.sqlx_pool_core.specs.declared.idle_check.Opening.TheVariants as opening
use Rattle.sqlx_pool_lists.specs.declared.steps.Idle.{Idle}
use Rattle.sqlx_pool_lists.specs.declared.steps.Start.{Start}
use Rattle.sqlx_pool_lists.specs.declared.steps.Start.TheVariants as start
use Rattle.sqlx_pool_lists.specs.declared.steps.AfterTest.{AfterTest}
use Rattle.sqlx_pool_lists.specs.declared.steps.AfterTest.TheVariants as tested
use Rattle.sqlx_pool_lists.specs.declared.steps.Polled.{Polled}
use Rattle.sqlx_pool_lists.specs.declared.steps.Polled.TheVariants as polled
use Rattle.sqlx_pool_lists.specs.declared.steps.Verdict.{Verdict}
use Rattle.sqlx_pool_lists.specs.declared.ticket.Ticket.{Ticket}
use Rattle.sqlx_pool_core.specs.Calls.{Call}
use Rattle.sqlx_pool_lists.specs.Core.{Core, is_out, ticket_of}
use Rattle.sqlx_pool_lists.specs.CoreTurn.{core_turn, turn_of, is_first_in_line}
use Rattle.sqlx_pool_lists.specs.PollTable.{is_at_rest, backs_off_until}
use Rattle.sqlx_pool_lists.specs.PollSteps.{start_answer, after_test}
use Rattle.sqlx_pool_core.specs.Walk.{Next, Test, Connect, Answer, first, then_by, last, judges, tells, Goes, Polls}

first-answer : {C : Type 0} (idle : List (Idle C)) → start.Exhausted ≡ start_answer (first_idle idle) idle → ⊥
first-answer [] e = cc
first-answer (i ∷ rest) e = cc

at_rest : {C : Type 0} (idle : List (Idle C)) (sh le left lt q b : Bool) (u : ℕ) → b ≡ false
    → start.Exhausted ≡ start_answer (cond sh turn.Closed (cond le turn.TimedOut (cond left (cond lt (turn.Backoff u) (cond b turn.Exhausted turn.Connect)) (cond q (cond b turn.Exhausted (first_idle idle)) turn.Waiting)))) idle → ⊥
at_rest idle sh le left lt q true u few e = cc
at_rest idle true le left lt q false u few e = cc
at_rest idle false true left lt q false u few e = cc
at_rest idle false false true true q false u few e = cc
at_rest idle false false true false q false u few e = cc
at_rest idle false false false lt true false u few e = first-answer idle e
at_rest idle false false false lt false false u few e = cc

module _ {C : Type 0} (core : Core C) (few : core.next_conn ≤ 2 ^ 63) where
  in_phase : (r q left : Bool) (m d u : ℕ) → start.Exhausted ≡ start_answer (cond r (turn_at_rest m q core.shut core.next_conn core.idle d left u) turn.NotHeld) core.idle → ⊥
  in_phase true q left m d u e = at_rest core.idle core.shut (nat_le d m) left (nat_lt m u) q (nat_lt (2 ^ 63) core.next_conn) u (le-ltb (2 ^ 63) core.next_conn few) e
  in_phase false q left m d u e = cc

  at_ticket : (q : Bool) (m : ℕ) (o : Option Ticket) → start.Exhausted ≡ start_answer (turn_of q core.shut m core o) core.idle → ⊥
  at_ticket q m None e = cc
  at_ticket q m (Some x) e = in_phase (is_at_rest x.phase) q (is_out x.phase) m x.deadline (backs_off_until x.phase) e

  pub starts-not : (k t m : ℕ) → start.Exhausted ≡ start_answer (core_turn core k t m) core.idle → ⊥
  starts-not k t m e = at_ticket (is_first_in_line t core) m (ticket_of k t core.tickets) e

-- the next answer, if it is given, isn't that the numbers are used up
abbrev pub IsNot : {C : Type 0} → Next C → Type 0
IsNot (Answer a) = a ≡ polled.Exhausted → ⊥
IsNot next = Unit {0}

first-not : {C : Type 0} (s : Start C) → (s ≡ start.Exhausted → ⊥) → IsNot (first s)
first-not start.NotHeld h = λ e. cc
first-not start.Closed h = λ e. cc
first-not start.TimedOut h = λ e. cc
first-not {C} start.Exhausted h = λ e. h refl
first-not start.Waiting h = λ e. cc
first-not (start.Backoff until) h = λ e. cc
first-not (start.Test i) h = tt
first-not start.Connect h = tt

then-not : {C : Type 0} (a : AfterTest C) → IsNot (then_by a)
then-not (tested.NotHeld verdict) = λ e. cc
then-not (tested.Closed raw) = λ e. cc
then-not (tested.Ready lent) = λ e. cc
then-not (tested.Test i) = tt
then-not tested.Connect = tt

module _ {C O X : Type 0} (does : Call C O → X → X → Type 0) (depth : X → C → ℕ) (options : O) (k t m : ℕ) where
  tried-not : (core : Core C) (x : Ticket) (o : Opening C) → last (tells m x core o) o ≡ polled.Exhausted → ⊥
  tried-not core x (opening.Opened raw) e = cc
  tried-not core x opening.Rejected e = cc
  tried-not core x opening.Transient e = cc
  tried-not core x (opening.Failed error) e = cc

  goes-not : (verdicts : List (Verdict C)) (next : Next C) (core new : Core C) (old now : X) (got : Polled C) (made : List Mark) → IsNot next
      → Goes does depth options k t m verdicts next core new old now got made → got ≡ polled.Exhausted → ⊥
  goes-not [] (Answer a) core new old now got made h g e = h (sym g.0 ∙ e)
  goes-not [] Connect core new old now got made h g e = tried-not core g.x g.opening (sym g.answer ∙ e)
  goes-not [] (Test i) core new old now got made h g e = g
  goes-not (v ∷ vs) (Test i) core new old now got made h g e =
      goes-not vs (then_by (judges k t core i v)) (after_test k t (judges k t core i v) core) new g.0 now got g.1.0 (then-not (judges k t core i v)) g.1.1.2 e
  goes-not (v ∷ vs) (Answer a) core new old now got made h g e = g
  goes-not (v ∷ vs) Connect core new old now got made h g e = g

  -- while the numbers last, no poll finds them used up
  pub polls-not : (core new : Core C) (old now : X) (got : Polled C) → core.next_conn ≤ 2 ^ 63 → Polls does depth options k t m core new old now got → got ≡ polled.Exhausted → ⊥
  polls-not core new old now got few p = goes-not p.verdicts (first p.begun) _ new old now got p.later (first-not p.begun (λ e. starts-not core few k t m (sym e ∙ p.step))) p.goes
