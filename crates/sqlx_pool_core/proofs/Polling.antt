-- The contract of a whole poll, put together of those of its parts.
use Rattle.std.proofs.Common.{◌≡◌, ℕ, Bool, true, false, ◌==◌, Option, Some, None, option_map, List, [], ◌∷◌, ◌++◌, refl, sym, ap, ◌∙◌, subst, append-nil, eq-eqb, if◌then◌else◌, ◌<◌, length, drop, arith}
use Rattle.sqlx_text.specs.declared.Moment.{Moment}
use Rattle.sqlx_pool_marks.specs.declared.mark.Mark.{Mark}
use Rattle.sqlx_pool_lists.specs.declared.options.PoolOptions.{PoolOptions}
use Rattle.sqlx_pool_core.specs.declared.idle_check.Opening.{Opening}
use Rattle.sqlx_pool_lists.specs.declared.steps.Idle.{Idle}
use Rattle.sqlx_pool_lists.specs.declared.steps.Start.{Start}
use Rattle.sqlx_pool_lists.specs.declared.steps.Verdict.{Verdict}
use Rattle.sqlx_pool_lists.specs.declared.steps.AfterTest.{AfterTest}
use Rattle.sqlx_pool_lists.specs.declared.steps.AfterTest.TheVariants as tested
use Rattle.sqlx_pool_lists.specs.declared.steps.Verdict.TheVariants as verdict
use Rattle.sqlx_pool_lists.specs.declared.steps.Polled.{Polled}
use Rattle.sqlx_pool_lists.specs.declared.ticket.Ticket.{Ticket}
use Rattle.sqlx_pool_lists.specs.declared.ticket.Phase.{Phase}
use Rattle.sqlx_pool_lists.specs.declared.ticket.Phase.TheVariants as phase
use Rattle.sqlx_pool_core.specs.Calls.{Call}
use Rattle.sqlx_pool_core.specs.Chain.{Tests}
use Rattle.sqlx_pool_lists.specs.Core.{Core, ticket_of}
use Rattle.sqlx_pool_lists.specs.Edits.{with_ticket, to_connect, to_next, tested_so_far}
use Rattle.sqlx_pool_core.specs.Logs.{Logs}
use Rattle.sqlx_pool_lists.specs.Makes.{Makes}
use Rattle.sqlx_pool_lists.specs.CoreTurn.{core_turn}
use Rattle.sqlx_pool_core.specs.PollParts.{untested}
use Rattle.sqlx_pool_lists.specs.PollSteps.{phase_for, start_answer, start_marks, started, judged, tested_at, after_refusal, test_answer, test_marks, after_test, try_answer_at, connect_answer}
use Rattle.sqlx_pool_core.specs.Walk.{Next, Test, Answer, first, then_by, tried_of, judges, tells, Goes, GoesOn, Polls}
use Rattle.sqlx_pool_core.proofs.Fair.{makes-then}
use Rattle.sqlx_pool_core.proofs.CheckEnds.{tests-judged}
use Rattle.sqlx_pool_core.proofs.WholePoll.{ticket-with}

pub logs-then : {C : Type 0} (core mid new : Core C) (one two : List Mark) → mid.options ≡ core.options → Logs core one mid → Logs mid two new → Logs core (one ++ two) new
logs-then core mid new one two same first second = λ marks s.
    makes-then core.options.max_connections marks one two mid new (first marks s)
    (subst (λ (options : PoolOptions). Makes options.max_connections (marks ++ one) two new) same (second (marks ++ one) (first marks s).stands))

pub logs-by : {C : Type 0} (core new : Core C) (one two : List Mark) → two ≡ one → Logs core one new → Logs core two new
logs-by core new one two e makes = λ marks s. subst (λ (l : List Mark). Makes core.options.max_connections marks l new) (sym e) (makes marks s)

-- ---- a test

found_if : (b : Bool) (created : Moment) → b ≡ true → (if b then Some created else None) ≡ Some created
found_if true created e = refl
found_if false created e = absurd cc

-- the pool finds the connection that is tested
pub tested-found : (c d : ℕ) (created : Moment) (before : ℕ) (p : Option Phase) → p ≡ Some (phase.Testing d created before) → c ≡ d → tested_at c p ≡ Some created
tested-found c d created before p e is = ap (tested_at c) e ∙ found_if (c == d) created (eq-eqb c d is)

-- the ticket whose phase this is, behind a change of it
pub changed-phase : (k t : ℕ) (f : Ticket → Ticket) (tickets : List Ticket) → ((x : Ticket) → (f x).number ≡ x.number) → ((x : Ticket) → (f x).client ≡ x.client)
    → phase_for k t (with_ticket t f tickets) ≡ option_map (λ (x : Ticket). (f x).phase) (ticket_of k t tickets)
changed-phase k t f tickets num cl = ap (option_map (λ (x : Ticket). x.phase)) (ticket-with k t f tickets num cl) ∙ by (ticket_of k t tickets)
  where
    by : (o : Option Ticket) → option_map (λ (x : Ticket). x.phase) (option_map f o) ≡ option_map (λ (x : Ticket). (f x).phase) o
    by None = refl
    by (Some x) = refl

-- there is such a ticket, where it is tested
has_ticket : (c : ℕ) (created : Moment) (o : Option Ticket) → tested_at c (option_map (λ (x : Ticket). x.phase) o) ≡ Some created → (x : Ticket) × (o ≡ Some x)
has_ticket c created None e = absurd cc
has_ticket c created (Some x) e = (x, refl)

-- the ticket connects, whose connection was refused
pub untested-connects : {C : Type 0} (core new : Core C) (k t c : ℕ) (created : Moment) → tested_at c (phase_for k t core.tickets) ≡ Some created → new ≡ untested t core → phase_for k t new.tickets ≡ Some phase.Connecting
untested-connects core new k t c created is becomes =
    ap (λ (c : Core _). phase_for k t c.tickets) becomes
    ∙ changed-phase k t to_connect core.tickets (λ x. refl) (λ x. refl)
    ∙ ap (option_map (λ (x : Ticket). phase.Connecting)) (has_ticket c created (ticket_of k t core.tickets) is).1

-- the next connection is tested for the ticket whose connection was refused
pub next-found : {C : Type 0} (core new : Core C) (k t c : ℕ) (created : Moment) (i : Idle C) → tested_at c (phase_for k t core.tickets) ≡ Some created → new ≡ after_test k t (tested.Test i) core
    → tested_at i.lent.id (phase_for k t new.tickets) ≡ Some i.lent.created
next-found core new k t c created i is becomes =
    let x = has_ticket c created (ticket_of k t core.tickets) is in
    tested-found i.lent.id i.lent.id i.lent.created (tested_so_far x.0.phase) (phase_for k t new.tickets)
    (ap (λ (c : Core _). phase_for k t c.tickets) becomes
    ∙ changed-phase k t (to_next i) core.tickets (λ x. refl) (λ x. refl)
    ∙ ap (option_map (λ (y : Ticket). (to_next i y).phase)) x.1)
    refl

-- one idle connection fewer rests behind a test that is followed by another
pub fewer-idle : {C : Type 0} (core : Core C) (created : Moment) (next : Bool) (verdict : Verdict C) (i : Idle C) → tested.Test i ≡ test_answer (Some created) false next core.idle verdict
    → (new : Core C) (k t : ℕ) → new ≡ after_test k t (tested.Test i) core → length new.idle < length core.idle
fewer-idle core created next (verdict.Accepted lent) i e new k t becomes = absurd cc
fewer-idle {C} core created next (verdict.Refused n) i e new k t becomes = subst (λ (c : Core C). length c.idle < length core.idle) (sym becomes) (by next core.idle e)
  where
    by : (b : Bool) (idle : List (Idle C)) → tested.Test i ≡ after_refusal b idle → length (drop 1 idle) < length idle
    by true (j ∷ rest) e = omega arith
    by true [] e = absurd cc
    by false idle e = absurd cc

-- ---- a ticket that connects

-- A ticket that connects.
pub record IsConnecting (k t : ℕ) (tickets : List Ticket) : Type 0 where
  pub x : Ticket
  pub found : ticket_of k t tickets ≡ Some x
  pub phase_is : x.phase ≡ phase.Connecting

connecting_at : (k t : ℕ) (tickets : List Ticket) (o : Option Ticket) → ticket_of k t tickets ≡ o → option_map (λ (x : Ticket). x.phase) o ≡ Some phase.Connecting → IsConnecting k t tickets
connecting_at k t tickets None found e = absurd cc
connecting_at k t tickets (Some x) found e = record { x = x; found = found; phase_is = cc }

pub is-connecting : (k t : ℕ) (tickets : List Ticket) → phase_for k t tickets ≡ Some phase.Connecting → IsConnecting k t tickets
is-connecting k t tickets e = connecting_at k t tickets (ticket_of k t tickets) refl e

-- the pool's answer for a ticket that connects
pub tells-is : {C : Type 0} (k t m : ℕ) (core : Core C) (opening : Opening C) (c : IsConnecting k t core.tickets) → core.shut ≡ false
    → connect_answer (ticket_of k t core.tickets) core.shut core.next_conn m (tried_of opening) ≡ tells m c.x core opening
tells-is k t m core opening c open_is =
    (λ j. connect_answer (c.found j) (open_is j) core.next_conn m (tried_of opening)) ∙ ap (λ (p : Phase). try_answer_at p c.x false core.next_conn m (tried_of opening)) c.phase_is

-- ---- the poll

module _ {C O X : Type 0} (does : Call C O → X → X → Type 0) (depth : X → C → ℕ) (options : O) (k t m : ℕ) where
  -- a test, and what follows it
  pub tested-goes : (i : Idle C) (core mid new : Core C) (old between now : X) (set : PoolOptions) (verdict : Verdict C) (after : AfterTest C) (result : Polled C)
      → set ≡ core.options → Tests does depth set m i verdict old between → after ≡ judges k t core i verdict → mid ≡ after_test k t after core → mid.options ≡ core.options
      → Logs core (test_marks k t (judged verdict) after) mid → GoesOn does depth options k t m (then_by after) mid new between now result → GoesOn does depth options k t m (Test i) core new old now result
  tested-goes i core mid new old between now set verdict after result set_is tests is becomes same makes on =
      let named : test_marks k t i.lent.id (judges k t core i verdict) ≡ test_marks k t (judged verdict) after = (λ j. test_marks k t (sym (tests-judged does depth set m i verdict old between tests) j) (sym is j)) in
      record {
        verdicts = verdict ∷ on.verdicts;
        made = test_marks k t i.lent.id (judges k t core i verdict) ++ on.made;
        goes = (
          between,
          (
            on.made,
            (
              subst (λ (o : PoolOptions). Tests does depth o m i verdict old between) set_is tests,
              refl,
              subst (λ (a : AfterTest C). Goes does depth options k t m on.verdicts (then_by a) (after_test k t a core) new between now result on.made) is
                  (subst (λ (c : Core C). Goes does depth options k t m on.verdicts (then_by after) c new between now result on.made) becomes on.goes),
            ),
          ),
        );
        makes = logs-then core mid new _ on.made same (logs-by core mid _ _ named makes) on.makes;
      }

  -- the pool's first step, and what follows it
  pub begun-polls : (core mid new : Core C) (old now : X) (begun : Start C) (result : Polled C) → begun ≡ start_answer (core_turn core k t m) core.idle → mid ≡ started t m begun core
      → mid.options ≡ core.options → Logs core (start_marks t (phase_for k t core.tickets) begun) mid → GoesOn does depth options k t m (first begun) mid new old now result → Polls does depth options k t m core new old now result
  begun-polls core mid new old now begun result step becomes same makes on = record {
    begun = begun;
    step = step;
    verdicts = on.verdicts;
    later = on.made;
    goes = subst (λ (c : Core C). Goes does depth options k t m on.verdicts (first begun) c new old now result on.made) becomes on.goes;
    makes = logs-then core mid new _ on.made same makes on.makes;
  }

  -- a poll that asks nothing
  pub plain-polls : (core new : Core C) (now : X) (begun : Start C) (answer : Polled C) → begun ≡ start_answer (core_turn core k t m) core.idle → first begun ≡ Answer answer → new ≡ started t m begun core
      → Logs core (start_marks t (phase_for k t core.tickets) begun) new → Polls does depth options k t m core new now now answer
  plain-polls core new now begun answer step plain becomes makes = record {
    begun = begun;
    step = step;
    verdicts = [];
    later = [];
    goes = subst (λ (n : Next C). Goes does depth options k t m [] n (started t m begun core) new now now answer []) (sym plain) (refl, refl, becomes, refl);
    makes = logs-by core new _ _ (append-nil _) makes;
  }
