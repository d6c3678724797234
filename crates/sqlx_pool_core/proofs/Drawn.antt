-- Which numbers each step draws.
use Rattle.std.proofs.Common.{◌≡◌, ℕ, ◌+◌, ◌^◌, ◌≤◌, ◌⊎◌, inl, inr, Bool, true, false, cond, not, ◌&&◌, ◌==◌, min, nat_lt, map, List, [], ◌∷◌, ◌++◌, Option, Some, None, option_map, Result, Ok, Err, OnOk, OnErr, refl, sym, ap, ◌∙◌, subst, arith}
use Rattle.sqlx_pool_marks.specs.declared.mark.Mark.{Mark}
use Rattle.sqlx_pool_marks.specs.declared.mark.Mark.TheVariants.{Asked, Taken, Reaped, Lent, Closed, Detached, Leaked, Ended, Shut}
use Rattle.sqlx_pool_marks.specs.Standing.{next_number}
use Rattle.sqlx_pool_marks.specs.Marks.{asked_number, opened_number}
use Rattle.sqlx_pool_lists.specs.declared.ticket.Ticket.{Ticket}
use Rattle.sqlx_pool_lists.specs.declared.ticket.OwnedConn.{OwnedConn}
use Rattle.sqlx_pool_lists.specs.declared.ticket.Phase.{Phase}
use Rattle.sqlx_pool_lists.specs.declared.ticket.Phase.TheVariants as phase
use Rattle.sqlx_pool_marks.specs.declared.turn.Turn.{Turn}
use Rattle.sqlx_pool_marks.specs.declared.turn.Turn.TheVariants as turned
use Rattle.sqlx_pool_lists.specs.declared.steps.Idle.{Idle}
use Rattle.sqlx_pool_lists.specs.declared.steps.Lent.{Lent as LentValue}
use Rattle.sqlx_pool_lists.specs.declared.steps.Start.{Start}
use Rattle.sqlx_pool_lists.specs.declared.steps.Start.TheVariants as start
use Rattle.sqlx_pool_lists.specs.declared.steps.Tried.{Tried}
use Rattle.sqlx_pool_lists.specs.declared.steps.Verdict.{Verdict}
use Rattle.sqlx_pool_lists.specs.declared.steps.Verdict.TheVariants as verdict
use Rattle.sqlx_pool_lists.specs.declared.steps.AfterTest.{AfterTest}
use Rattle.sqlx_pool_lists.specs.declared.steps.AfterTest.TheVariants as tested
use Rattle.sqlx_text.specs.declared.Moment.{Moment}
use Rattle.sqlx_pool_lists.specs.declared.steps.Tried.TheVariants as tried
use Rattle.sqlx_pool_lists.specs.declared.steps.AfterConnect.{AfterConnect}
use Rattle.sqlx_pool_lists.specs.declared.steps.AfterConnect.TheVariants as connected
use Rattle.sqlx_pool_lists.specs.declared.steps.Given.{Given}
use Rattle.sqlx_pool_lists.specs.declared.steps.Given.TheVariants as given
use Rattle.sqlx_pool_lists.specs.Core.{Core, ticket_of, loan_of, size, gone, is_out, has_gone}
use Rattle.sqlx_pool_lists.specs.Sound.{IsSound}
use Rattle.sqlx_pool_core.specs.Numbers.{Draws, Stays, under_way}
use Rattle.sqlx_pool_lists.specs.CoreTurn.{turn_of}
use Rattle.sqlx_pool_lists.specs.Edits.{with_ticket, to_next, to_try, to_connect, to_back_off, core_without_ticket, asked, at_moment}
use Rattle.sqlx_pool_lists.specs.PollSteps.{phase_for, start_answer, start_marks, started, judged, tested_at, lent_since, may_test_next, after_refusal, test_answer, test_marks, after_test, try_answer_at, connect_answer, connect_marks, after_connect, wait_of, cancel_marks, cancelled, try_marks, after_try}
use Rattle.sqlx_pool_core.specs.ReturnSteps.{give_marks, core_after_give, end_marks, detach_marks, leak_marks, released, leaked}
use Rattle.sqlx_pool_lists.specs.MaintenanceSteps.{reap_marks, reaped, has_place_if, placed, done_marks, placed_back, done_at, done, closed_idle, close_marks, close_answer, closed, closed_from}
use Rattle.std.proofs.lemmas.Bool.{ltb-false}
use Rattle.sqlx_pool_marks.proofs.Counting.{one, count-push}
use Rattle.sqlx_pool_lists.proofs.Counting.{count-changed}
use Rattle.sqlx_pool_core.proofs.PollCode.{among}
use Rattle.sqlx_pool_core.proofs.TurnCases.{turn-test, turn-connect}
use Rattle.sqlx_pool_core.proofs.Known.{gone-ended_le, gone-ended}
use Rattle.sqlx_pool_core.proofs.Soundness.{one-le}

-- few enough numbers, by what is under way
abbrev pub KeepsFew : {C : Type 0} → Core C → Core C → Type 0
KeepsFew old new = (new.next_conn + under_way new ≤ old.next_conn + under_way old) ⊎ ((old.next_conn ≤ 2 ^ 63) × (new.next_conn ≡ old.next_conn))

-- ---- ask

pub asked-draws : {C : Type 0} (core : Core C) (k d m : ℕ) → Draws core (at_moment m (asked k d core)) (Asked core.next_ticket k d ∷ [])
asked-draws core k d m =
    let x : Ticket = record { number = core.next_ticket; client = k; deadline = d; phase = phase.Waiting; first_try = record { 0 = 0 }; last_wait = None } in
    record { tickets = refl; conns = refl; more_tickets = omega arith; more_conns = omega arith; few = let g = count-push has_gone core.tickets x in inl (omega (arith, g)) }

-- ---- start

same_ask : (n t : ℕ) (p : Option Phase) → {C : Type 0} → (r : Start C) → next_number asked_number n (start_marks t p r) ≡ n
same_ask n t p start.NotHeld = refl
same_ask n t p start.Closed = refl
same_ask n t p start.TimedOut = refl
same_ask n t (Some phase.Waiting) start.Exhausted = refl
same_ask n t (Some (phase.Testing c w before)) start.Exhausted = refl
same_ask n t (Some phase.Connecting) start.Exhausted = refl
same_ask n t (Some (phase.Backoff u)) start.Exhausted = refl
same_ask n t None start.Exhausted = refl
same_ask n t p start.Waiting = refl
same_ask n t p (start.Backoff until) = refl
same_ask n t p (start.Test i) = refl
same_ask n t (Some phase.Waiting) start.Connect = refl
same_ask n t (Some (phase.Testing c w before)) start.Connect = refl
same_ask n t (Some phase.Connecting) start.Connect = refl
same_ask n t (Some (phase.Backoff u)) start.Connect = refl
same_ask n t None start.Connect = refl

same_open : (n t : ℕ) (p : Option Phase) → {C : Type 0} → (r : Start C) → next_number opened_number n (start_marks t p r) ≡ n
same_open n t p start.NotHeld = refl
same_open n t p start.Closed = refl
same_open n t p start.TimedOut = refl
same_open n t (Some phase.Waiting) start.Exhausted = refl
same_open n t (Some (phase.Testing c w before)) start.Exhausted = refl
same_open n t (Some phase.Connecting) start.Exhausted = refl
same_open n t (Some (phase.Backoff u)) start.Exhausted = refl
same_open n t None start.Exhausted = refl
same_open n t p start.Waiting = refl
same_open n t p (start.Backoff until) = refl
same_open n t p (start.Test i) = refl
same_open n t (Some phase.Waiting) start.Connect = refl
same_open n t (Some (phase.Testing c w before)) start.Connect = refl
same_open n t (Some phase.Connecting) start.Connect = refl
same_open n t (Some (phase.Backoff u)) start.Connect = refl
same_open n t None start.Connect = refl

pub start_next_ticket : {C : Type 0} (core : Core C) (t m : ℕ) (r : Start C) → (started t m r core).next_ticket ≡ core.next_ticket
start_next_ticket core t m start.NotHeld = refl
start_next_ticket core t m start.Closed = refl
start_next_ticket core t m start.TimedOut = refl
start_next_ticket core t m start.Exhausted = refl
start_next_ticket core t m start.Waiting = refl
start_next_ticket core t m (start.Backoff until) = refl
start_next_ticket core t m (start.Test i) = refl
start_next_ticket core t m start.Connect = refl

pub start_next_conn : {C : Type 0} (core : Core C) (t m : ℕ) (r : Start C) → (started t m r core).next_conn ≡ core.next_conn
start_next_conn core t m start.NotHeld = refl
start_next_conn core t m start.Closed = refl
start_next_conn core t m start.TimedOut = refl
start_next_conn core t m start.Exhausted = refl
start_next_conn core t m start.Waiting = refl
start_next_conn core t m (start.Backoff until) = refl
start_next_conn core t m (start.Test i) = refl
start_next_conn core t m start.Connect = refl

module _ {C : Type 0} (core : Core C) (sound : IsSound core) (q : Bool) (k t m : ℕ) where
  fewer : KeepsFew core (at_moment m (core_without_ticket t core))
  fewer = let le = gone-ended_le t core.tickets in inl (omega (arith, le))

  again : (x : Ticket) → ticket_of k t core.tickets ≡ Some x → is_out x.phase ≡ true → KeepsFew core (at_moment m (record core { tickets = with_ticket t (to_try m) core.tickets }))
  again x e out =
      let c = count-changed has_gone t x core.tickets (to_try m) (among core k t x sound e) in
      let was : one has_gone x ≡ 1 = ap (λ (b : Bool). cond {A = ℕ} b 1 0) out in
      let now = one-le has_gone (to_try m x) in
      inl (omega (arith, c, was, now))

  connects : (o : Option Ticket) → ticket_of k t core.tickets ≡ o → turn_of q core.closed m core o ≡ turned.Connect → KeepsFew core (at_moment m (record core { tickets = with_ticket t (to_try m) core.tickets }))
  connects None e is = absurd cc
  connects (Some x) e is = elim (turn-connect q core.closed core m x is) [
    | inl first ↦ inr (first.leaves.numbers, refl)
    | inr backs ↦ again x e (ap is_out backs.backs_off)
  ]

  tests_one : (i : Idle C) (o : Option Ticket) → turn_of q core.closed m core o ≡ turned.Test → KeepsFew core (started t m (start.Test i) core)
  tests_one i None is = absurd cc
  tests_one i (Some x) is = inr ((turn-test q core.closed core m x is).leaves.numbers, refl)

  tests_or_connects : (idle : List (Idle C)) (o : Option Ticket) → turn_of q core.closed m core o ≡ turned.Test → core.idle ≡ idle → KeepsFew core (started t m (start_answer turned.Test idle) core)
  tests_or_connects [] None is e = absurd cc
  tests_or_connects [] (Some x) is e = let t = turn-test q core.closed core m x is in absurd (let f : [] ≡ t.first ∷ t.rest = sym e ∙ t.idle in cc)
  tests_or_connects (i ∷ rest) o is e = tests_one i o is

  by_turn : (u : Turn) → turn_of q core.closed m core (ticket_of k t core.tickets) ≡ u → KeepsFew core (started t m (start_answer u core.idle) core)
  by_turn turned.NotHeld is = inl (omega arith)
  by_turn turned.Closed is = fewer
  by_turn turned.TimedOut is = fewer
  by_turn turned.Exhausted is = fewer
  by_turn turned.Waiting is = inl (omega arith)
  by_turn (turned.Backoff until) is = inl (omega arith)
  by_turn turned.Test is = tests_or_connects core.idle (ticket_of k t core.tickets) is refl
  by_turn turned.Connect is = connects (ticket_of k t core.tickets) refl is

pub start-draws : {C : Type 0} (core new : Core C) → IsSound core → (q : Bool) (k t m : ℕ) (r : Start C) → r ≡ start_answer (turn_of q core.closed m core (ticket_of k t core.tickets)) core.idle → new ≡ started t m r core
    → Draws core new (start_marks t (phase_for k t core.tickets) r)
start-draws {C} core new sound q k t m r is left =
    subst (λ (n : Core C). Draws core n (start_marks t (phase_for k t core.tickets) r)) (sym left) record {
      tickets = start_next_ticket core t m r ∙ sym (same_ask core.next_ticket t (phase_for k t core.tickets) r);
      conns = start_next_conn core t m r ∙ sym (same_open core.next_conn t (phase_for k t core.tickets) r);
      more_tickets = let e = start_next_ticket core t m r in omega (arith, e);
      more_conns = let e = start_next_conn core t m r in omega (arith, e);
      few = subst (λ (a : Start C). KeepsFew core (started t m a core)) (sym is) (by_turn core sound q k t m (turn_of q core.closed m core (ticket_of k t core.tickets)) refl);
    }

-- ---- finish_connect

module _ {C : Type 0} (core : Core C) (sound : IsSound core) (k t m : ℕ) where
  over : Draws core (at_moment m (core_without_ticket t core)) (Ended t ∷ [])
  over = record { tickets = refl; conns = refl; more_tickets = omega arith; more_conns = omega arith; few = let le = gone-ended_le t core.tickets in inl (omega (arith, le)) }

  nothing : Draws core core []
  nothing = record { tickets = refl; conns = refl; more_tickets = omega arith; more_conns = omega arith; few = inl (omega arith) }

  module _ (x : Ticket) (e : ticket_of k t core.tickets ≡ Some x) (is : x.phase ≡ phase.Connecting) where
    opens : (raw : C) → Draws core (after_connect k t m (try_answer_at phase.Connecting x false core.next_conn m (tried.Opened raw)) core) (connect_marks k t m (try_answer_at phase.Connecting x false core.next_conn m (tried.Opened raw)))
    opens raw = record { tickets = refl; conns = refl; more_tickets = omega arith; more_conns = omega arith; few = let le = gone-ended k t core.tickets x e (ap is_out is) in inl (omega (arith, le)) }

    waits : (wait until : ℕ) → Draws core (at_moment m (record core { tickets = with_ticket t (λ x. to_back_off (wait_of x) until x) core.tickets })) []
    waits wait until = record {
      tickets = refl;
      conns = refl;
      more_tickets = omega arith;
      more_conns = omega arith;
      few =
          let f = λ (y : Ticket). to_back_off (wait_of y) until y in
          let c = count-changed has_gone t x core.tickets f (among core k t x sound e) in
          let was : one has_gone x ≡ 1 = ap (λ (p : Phase). cond {A = ℕ} (is_out p) 1 0) is in
          let now = one-le has_gone (f x) in
          inl (omega (arith, c, was, now));
    }

    by_tried : (closed : Bool) (a : Tried C) → Draws core (after_connect k t m (try_answer_at phase.Connecting x closed core.next_conn m a) core) (connect_marks k t m (try_answer_at phase.Connecting x closed core.next_conn m a))
    by_tried true a = over
    by_tried false (tried.Opened raw) = opens raw
    by_tried false tried.Rejected = waits (wait_of x) (m + wait_of x)
    by_tried false tried.Transient = waits (wait_of x) (m + wait_of x)
    by_tried false tried.Fatal = over

  by_phase : (x : Ticket) → ticket_of k t core.tickets ≡ Some x → (p : Phase) → x.phase ≡ p → (a : Tried C)
      → Draws core (after_connect k t m (try_answer_at p x core.closed core.next_conn m a) core) (connect_marks k t m (try_answer_at p x core.closed core.next_conn m a))
  by_phase x e phase.Connecting is a = by_tried x e is core.closed a
  by_phase x e phase.Waiting is a = nothing
  by_phase x e (phase.Testing c w before) is a = nothing
  by_phase x e (phase.Backoff until) is a = nothing

  by_ticket : (o : Option Ticket) → ticket_of k t core.tickets ≡ o → (a : Tried C)
      → Draws core (after_connect k t m (connect_answer o core.closed core.next_conn m a) core) (connect_marks k t m (connect_answer o core.closed core.next_conn m a))
  by_ticket None e a = nothing
  by_ticket (Some x) e a = by_phase x e x.phase refl a

pub connect-draws : {C : Type 0} (core new : Core C) → IsSound core → (k t m : ℕ) (a : Tried C) (r : AfterConnect C) → r ≡ connect_answer (ticket_of k t core.tickets) core.closed core.next_conn m a → new ≡ after_connect k t m r core
    → Draws core new (connect_marks k t m r)
connect-draws {C} core new sound k t m a r is left =
    subst (λ (n : Core C). Draws core n (connect_marks k t m r)) (sym left)
    (subst (λ (r : AfterConnect C). Draws core (after_connect k t m r core) (connect_marks k t m r)) (sym is) (by_ticket core sound k t m (ticket_of k t core.tickets) refl a))

-- ---- give

given_draws : {C : Type 0} (core : Core C) (o : Option OwnedConn) (lent : LentValue C) (m : ℕ) (r : Given C) → Draws core (core_after_give o lent m r core) (give_marks lent.id m r)
given_draws core (Some h) lent m given.Kept = record { tickets = refl; conns = refl; more_tickets = omega arith; more_conns = omega arith; few = inl (omega arith) }
given_draws core None lent m given.Kept = record { tickets = refl; conns = refl; more_tickets = omega arith; more_conns = omega arith; few = inl (omega arith) }
given_draws core o lent m (given.Closed raw) = record { tickets = refl; conns = refl; more_tickets = omega arith; more_conns = omega arith; few = inl (omega arith) }
given_draws core o lent m (given.NotHeld raw) = record { tickets = refl; conns = refl; more_tickets = omega arith; more_conns = omega arith; few = inl (omega arith) }

pub give-draws : {C : Type 0} (core new : Core C) (k m : ℕ) (lent : LentValue C) (r : Given C) → new ≡ core_after_give (loan_of k lent.id core.held) lent m r core → Draws core new (give_marks lent.id m r)
give-draws {C} core new k m lent r left = subst (λ (n : Core C). Draws core n (give_marks lent.id m r)) (sym left) (given_draws core (loan_of k lent.id core.held) lent m r)

-- ---- the code of an ask

asks_draws : {C : Type 0} (core : Core C) (k d m : ℕ) (tickets : List Ticket)
    → tickets ≡ core.tickets ++ (record { number = core.next_ticket; client = k; deadline = d; phase = phase.Waiting; first_try = record { 0 = 0 }; last_wait = None }) ∷ []
    → Draws core (record core { tickets = tickets; next_ticket = core.next_ticket + 1; last = m }) (Asked core.next_ticket k d ∷ [])
asks_draws core k d m tickets e = rw e (asked-draws core k d m)

pub asking-draws : {C : Type 0} (core now : Core C) (k d m : ℕ) (tickets : List Ticket) → core ≡ now
    → tickets ≡ core.tickets ++ (record { number = core.next_ticket; client = k; deadline = d; phase = phase.Waiting; first_try = record { 0 = 0 }; last_wait = None }) ∷ []
    → Draws now (record core { tickets = tickets; next_ticket = core.next_ticket + 1; last = m }) (Asked now.next_ticket k d ∷ [])
asking-draws {C} core now k d m tickets view e =
    subst (λ (n : Core C). Draws n (record core { tickets = tickets; next_ticket = core.next_ticket + 1; last = m }) (Asked n.next_ticket k d ∷ [])) view (asks_draws core k d m tickets e)

-- ---- what stays

pub stays-self : {C : Type 0} (core : Core C) → Stays core core
stays-self core = record { options = refl; permits = refl; shut = refl; closed = refl }

pub start_stays : {C : Type 0} (core : Core C) (t m : ℕ) (r : Start C) → Stays core (started t m r core)
start_stays core t m start.NotHeld = stays-self core
start_stays core t m start.Closed = record { options = refl; permits = refl; shut = refl; closed = refl }
start_stays core t m start.TimedOut = record { options = refl; permits = refl; shut = refl; closed = refl }
start_stays core t m start.Exhausted = record { options = refl; permits = refl; shut = refl; closed = refl }
start_stays core t m start.Waiting = stays-self core
start_stays core t m (start.Backoff until) = stays-self core
start_stays core t m (start.Test i) = record { options = refl; permits = refl; shut = refl; closed = refl }
start_stays core t m start.Connect = record { options = refl; permits = refl; shut = refl; closed = refl }

pub start-stays : {C : Type 0} (core new : Core C) (t m : ℕ) (r : Start C) → new ≡ started t m r core → Stays core new
start-stays {C} core new t m r left = subst (Stays core) (sym left) (start_stays core t m r)

connect_stays : {C : Type 0} (core : Core C) (k t m : ℕ) (r : AfterConnect C) → Stays core (after_connect k t m r core)
connect_stays core k t m (connected.NotHeld a) = stays-self core
connect_stays core k t m (connected.Closed raw) = record { options = refl; permits = refl; shut = refl; closed = refl }
connect_stays core k t m (connected.Ready lent) = record { options = refl; permits = refl; shut = refl; closed = refl }
connect_stays core k t m (connected.Backoff until) = record { options = refl; permits = refl; shut = refl; closed = refl }
connect_stays core k t m connected.Ended = record { options = refl; permits = refl; shut = refl; closed = refl }

pub connect-stays : {C : Type 0} (core new : Core C) (k t m : ℕ) (r : AfterConnect C) → new ≡ after_connect k t m r core → Stays core new
connect-stays {C} core new k t m r left = subst (Stays core) (sym left) (connect_stays core k t m r)

give_stays : {C : Type 0} (core : Core C) (o : Option OwnedConn) (lent : LentValue C) (m : ℕ) (r : Given C) → Stays core (core_after_give o lent m r core)
give_stays core (Some h) lent m given.Kept = record { options = refl; permits = refl; shut = refl; closed = refl }
give_stays core None lent m given.Kept = record { options = refl; permits = refl; shut = refl; closed = refl }
give_stays core o lent m (given.Closed raw) = record { options = refl; permits = refl; shut = refl; closed = refl }
give_stays core o lent m (given.NotHeld raw) = stays-self core

pub give-stays : {C : Type 0} (core new : Core C) (o : Option OwnedConn) (lent : LentValue C) (m : ℕ) (r : Given C) → new ≡ core_after_give o lent m r core → Stays core new
give-stays {C} core new o lent m r left = subst (Stays core) (sym left) (give_stays core o lent m r)

pub ask-stays : {C E : Type 0} (core new : Core C) (k d m : ℕ) (r : Result ℕ E) → OnOk r (new ≡ at_moment m (asked k d core)) → OnErr r (new ≡ core) → Stays core new
ask-stays {C} core new k d m (Ok t) ok err = subst (Stays core) (sym ok) (record { options = refl; permits = refl; shut = refl; closed = refl })
ask-stays {C} core new k d m (Err e) ok err = subst (Stays core) (sym err) (stays-self core)

-- ---- a step that numbers nothing

-- no number is drawn, and no more is under way
pub numbers-nothing : {C : Type 0} (old new : Core C) (made : List Mark) → new.next_ticket ≡ old.next_ticket → new.next_conn ≡ old.next_conn → next_number asked_number old.next_ticket made ≡ old.next_ticket → next_number opened_number old.next_conn made ≡ old.next_conn
    → under_way new ≤ under_way old → Draws old new made
numbers-nothing old new made tickets conns no_ask no_open few = record {
  tickets = tickets ∙ sym no_ask;
  conns = conns ∙ sym no_open;
  more_tickets = omega (arith, tickets);
  more_conns = omega (arith, conns);
  few = inl (omega (arith, conns, few));
}

-- ---- cancel, try, and the steps that end a loan

pub cancel-draws : {C : Type 0} (core new : Core C) (t : ℕ) (r : Bool) → new ≡ cancelled t r core → Draws core new (cancel_marks t r)
cancel-draws {C} core new t r left = subst (λ (n : Core C). Draws core n (cancel_marks t r)) (sym left) (by r)
  where
    by : (r : Bool) → Draws core (cancelled t r core) (cancel_marks t r)
    by true = let le = gone-ended_le t core.tickets in numbers-nothing core (core_without_ticket t core) (Ended t ∷ []) refl refl refl refl (omega (arith, le))
    by false = numbers-nothing core core [] refl refl refl refl (omega arith)

pub cancel-stays : {C : Type 0} (core new : Core C) (t : ℕ) (r : Bool) → new ≡ cancelled t r core → Stays core new
cancel-stays {C} core new t r left = subst (Stays core) (sym left) (by r)
  where
    by : (r : Bool) → Stays core (cancelled t r core)
    by true = record { options = refl; permits = refl; shut = refl; closed = refl }
    by false = stays-self core

pub try-draws : {C : Type 0} (core new : Core C) (k m : ℕ) (r : Option (LentValue C)) → new ≡ after_try k m r core → Draws core new (try_marks k r)
try-draws {C} core new k m r left = subst (λ (n : Core C). Draws core n (try_marks k r)) (sym left) (by r)
  where
    by : (r : Option (LentValue C)) → Draws core (after_try k m r core) (try_marks k r)
    by (Some lent) = numbers-nothing core (after_try k m (Some lent) core) (Taken lent.id ∷ Lent k lent.id ∷ []) refl refl refl refl (omega arith)
    by None = numbers-nothing core core [] refl refl refl refl (omega arith)

pub try-stays : {C : Type 0} (core new : Core C) (k m : ℕ) (r : Option (LentValue C)) → new ≡ after_try k m r core → Stays core new
try-stays {C} core new k m r left = subst (Stays core) (sym left) (by r)
  where
    by : (r : Option (LentValue C)) → Stays core (after_try k m r core)
    by (Some lent) = record { options = refl; permits = refl; shut = refl; closed = refl }
    by None = stays-self core

pub end-draws : {C : Type 0} (core new : Core C) (c : ℕ) (r : Bool) → new ≡ released c r core → Draws core new (end_marks c r)
end-draws {C} core new c r left = subst (λ (n : Core C). Draws core n (end_marks c r)) (sym left) (by r)
  where
    by : (r : Bool) → Draws core (released c r core) (end_marks c r)
    by true = numbers-nothing core (released c true core) (Closed c ∷ []) refl refl refl refl (omega arith)
    by false = numbers-nothing core core [] refl refl refl refl (omega arith)

pub detach-draws : {C : Type 0} (core new : Core C) (c : ℕ) (r : Bool) → new ≡ released c r core → Draws core new (detach_marks c r)
detach-draws {C} core new c r left = subst (λ (n : Core C). Draws core n (detach_marks c r)) (sym left) (by r)
  where
    by : (r : Bool) → Draws core (released c r core) (detach_marks c r)
    by true = numbers-nothing core (released c true core) (Detached c ∷ []) refl refl refl refl (omega arith)
    by false = numbers-nothing core core [] refl refl refl refl (omega arith)

pub release-stays : {C : Type 0} (core new : Core C) (c : ℕ) (r : Bool) → new ≡ released c r core → Stays core new
release-stays {C} core new c r left = subst (Stays core) (sym left) (by r)
  where
    by : (r : Bool) → Stays core (released c r core)
    by true = record { options = refl; permits = refl; shut = refl; closed = refl }
    by false = stays-self core

pub leak-draws : {C : Type 0} (core new : Core C) (c : ℕ) (r : Bool) → new ≡ leaked c r core → Draws core new (leak_marks c r)
leak-draws {C} core new c r left = subst (λ (n : Core C). Draws core n (leak_marks c r)) (sym left) (by r)
  where
    by : (r : Bool) → Draws core (leaked c r core) (leak_marks c r)
    by true = numbers-nothing core (leaked c true core) (Leaked c ∷ []) refl refl refl refl (omega arith)
    by false = numbers-nothing core core [] refl refl refl refl (omega arith)

pub leak-stays : {C : Type 0} (core new : Core C) (c : ℕ) (r : Bool) → new ≡ leaked c r core → Stays core new
leak-stays {C} core new c r left = subst (Stays core) (sym left) (by r)
  where
    by : (r : Bool) → Stays core (leaked c r core)
    by true = record { options = refl; permits = refl; shut = refl; closed = refl }
    by false = stays-self core

-- ---- finish_test

module _ {C : Type 0} (core : Core C) (sound : IsSound core) (k t : ℕ) where
  changes : (x : Ticket) → ticket_of k t core.tickets ≡ Some x → (f : Ticket → Ticket) → is_out x.phase ≡ true → gone (with_ticket t f core.tickets) ≤ gone core.tickets
  changes x e f out =
      let c = count-changed has_gone t x core.tickets f (among core k t x sound e) in
      let was : one has_gone x ≡ 1 = ap (λ (b : Bool). cond {A = ℕ} b 1 0) out in
      let now = one-le has_gone (f x) in
      omega (arith, c, was, now)

  goes_on : (x : Ticket) → ticket_of k t core.tickets ≡ Some x → is_out x.phase ≡ true → (c : ℕ) (next : Bool) (idle : List (Idle C))
      → Draws core (after_test k t (after_refusal next idle) core) (test_marks k t c (after_refusal next idle))
  goes_on x e out c true (i ∷ rest) = let le = changes x e (to_next i) out in numbers-nothing core (after_test k t (tested.Test i) core) (Closed c ∷ Taken i.lent.id ∷ []) refl refl refl refl (omega (arith, le))
  goes_on x e out c true [] = let le = changes x e to_connect out in numbers-nothing core (after_test k t tested.Connect core) (Closed c ∷ []) refl refl refl refl (omega (arith, le))
  goes_on x e out c false [] = let le = changes x e to_connect out in numbers-nothing core (after_test k t tested.Connect core) (Closed c ∷ []) refl refl refl refl (omega (arith, le))
  goes_on x e out c false (i ∷ rest) = let le = changes x e to_connect out in numbers-nothing core (after_test k t tested.Connect core) (Closed c ∷ []) refl refl refl refl (omega (arith, le))

  by_answer : (x : Ticket) → ticket_of k t core.tickets ≡ Some x → is_out x.phase ≡ true → (v : Verdict C) (created : Moment) (shut next : Bool) (idle : List (Idle C))
      → Draws core (after_test k t (test_answer (Some created) shut next idle v) core) (test_marks k t (judged v) (test_answer (Some created) shut next idle v))
  by_answer x e out v created true next idle =
      let le = gone-ended_le t core.tickets in numbers-nothing core (core_without_ticket t core) (Closed (judged v) ∷ Ended t ∷ []) refl refl refl refl (omega (arith, le))
  by_answer x e out (verdict.Accepted lent) created false next idle =
      let le = gone-ended_le t core.tickets in numbers-nothing core (after_test k t (tested.Ready (lent_since created lent)) core) (Lent k lent.id ∷ Ended t ∷ []) refl refl refl refl (omega (arith, le))
  by_answer x e out (verdict.Refused c) created false next idle = goes_on x e out c next idle

  by_found : (x : Ticket) → ticket_of k t core.tickets ≡ Some x → is_out x.phase ≡ true → (v : Verdict C) (created : Moment) (b shut next : Bool) (idle : List (Idle C))
      → Draws core (after_test k t (test_answer (cond b (Some created) None) shut next idle v) core) (test_marks k t (judged v) (test_answer (cond b (Some created) None) shut next idle v))
  by_found x e out v created true shut next idle = by_answer x e out v created shut next idle
  by_found x e out v created false shut next idle = numbers-nothing core core [] refl refl refl refl (omega arith)

  by_tested : (x : Ticket) → ticket_of k t core.tickets ≡ Some x → (p : Phase) → x.phase ≡ p → (v : Verdict C) (shut next : Bool) (idle : List (Idle C))
      → Draws core (after_test k t (test_answer (tested_at (judged v) (Some p)) shut next idle v) core) (test_marks k t (judged v) (test_answer (tested_at (judged v) (Some p)) shut next idle v))
  by_tested x e (phase.Testing d created before) is v shut next idle = by_found x e (ap is_out is) v created (judged v == d) shut next idle
  by_tested x e phase.Waiting is v shut next idle = numbers-nothing core core [] refl refl refl refl (omega arith)
  by_tested x e phase.Connecting is v shut next idle = numbers-nothing core core [] refl refl refl refl (omega arith)
  by_tested x e (phase.Backoff until) is v shut next idle = numbers-nothing core core [] refl refl refl refl (omega arith)

  by_asked : (o : Option Ticket) → ticket_of k t core.tickets ≡ o → (v : Verdict C) (shut next : Bool) (idle : List (Idle C))
      → Draws core (after_test k t (test_answer (tested_at (judged v) (option_map (λ (x : Ticket). x.phase) o)) shut next idle v) core)
      (test_marks k t (judged v) (test_answer (tested_at (judged v) (option_map (λ (x : Ticket). x.phase) o)) shut next idle v))
  by_asked None e v shut next idle = numbers-nothing core core [] refl refl refl refl (omega arith)
  by_asked (Some x) e v shut next idle = by_tested x e x.phase refl v shut next idle

pub test-draws : {C : Type 0} (core new : Core C) → IsSound core → (k t : ℕ) (v : Verdict C) (r : AfterTest C)
    → r ≡ test_answer (tested_at (judged v) (phase_for k t core.tickets)) core.closed (may_test_next core.options.idle_tries (phase_for k t core.tickets)) core.idle v → new ≡ after_test k t r core
    → Draws core new (test_marks k t (judged v) r)
test-draws {C} core new sound k t v r is left =
    subst (λ (n : Core C). Draws core n (test_marks k t (judged v) r)) (sym left)
    (subst (λ (r : AfterTest C). Draws core (after_test k t r core) (test_marks k t (judged v) r)) (sym is)
    (by_asked core sound k t (ticket_of k t core.tickets) refl v core.closed (may_test_next core.options.idle_tries (phase_for k t core.tickets)) core.idle))

pub test-stays : {C : Type 0} (core new : Core C) (k t : ℕ) (r : AfterTest C) → new ≡ after_test k t r core → Stays core new
test-stays {C} core new k t r left = subst (Stays core) (sym left) (by r)
  where
    by : (r : AfterTest C) → Stays core (after_test k t r core)
    by (tested.NotHeld verdict) = stays-self core
    by (tested.Closed raw) = record { options = refl; permits = refl; shut = refl; closed = refl }
    by (tested.Ready lent) = record { options = refl; permits = refl; shut = refl; closed = refl }
    by (tested.Test i) = record { options = refl; permits = refl; shut = refl; closed = refl }
    by tested.Connect = record { options = refl; permits = refl; shut = refl; closed = refl }

-- ---- reaping, the minimum, closing

pub reap-draws : {C : Type 0} (core new : Core C) (m : ℕ) (r : Option (Idle C)) → new ≡ reaped m r core → Draws core new (reap_marks r)
reap-draws {C} core new m r left = subst (λ (n : Core C). Draws core n (reap_marks r)) (sym left) (by r)
  where
    by : (r : Option (Idle C)) → Draws core (reaped m r core) (reap_marks r)
    by (Some i) = numbers-nothing core (reaped m (Some i) core) (Reaped i.lent.id ∷ []) refl refl refl refl (omega arith)
    by None = numbers-nothing core core [] refl refl refl refl (omega arith)

pub reap-stays : {C : Type 0} (core new : Core C) (m : ℕ) (r : Option (Idle C)) → new ≡ reaped m r core → Stays core new
reap-stays {C} core new m r left = subst (Stays core) (sym left) (by r)
  where
    by : (r : Option (Idle C)) → Stays core (reaped m r core)
    by (Some i) = record { options = refl; permits = refl; shut = refl; closed = refl }
    by None = stays-self core

unused : (passes room used : Bool) → (passes && room && not used) ≡ true → used ≡ false
unused true true false e = refl
unused true true true e = absurd cc
unused true false used e = absurd cc
unused false room used e = absurd cc

pub place-draws : {C : Type 0} (core new : Core C) (passes : Bool) (minimum : ℕ) (r : Bool) → r ≡ has_place_if passes minimum core → new ≡ placed r core → Draws core new []
place-draws {C} core new passes minimum r is left = subst (λ (n : Core C). Draws core n []) (sym left) (by r refl)
  where
    by : (b : Bool) → r ≡ b → Draws core (placed b core) []
    by true e =
        let few = ltb-false (2 ^ 63) core.next_conn (unused passes (nat_lt (size core) (min minimum core.options.max_connections)) (nat_lt (2 ^ 63) core.next_conn) (sym is ∙ e)) in
        record { tickets = refl; conns = refl; more_tickets = omega arith; more_conns = omega arith; few = inr (omega (arith, few), refl) }
    by false e = numbers-nothing core core [] refl refl refl refl (omega arith)

pub place-stays : {C : Type 0} (core new : Core C) (r : Bool) → new ≡ placed r core → Stays core new
place-stays {C} core new r left = subst (Stays core) (sym left) (by r)
  where
    by : (r : Bool) → Stays core (placed r core)
    by true = record { options = refl; permits = refl; shut = refl; closed = refl }
    by false = stays-self core

pub done-draws : {C : Type 0} (core new : Core C) (m : ℕ) (raw : Option C) → 1 ≤ core.places → new ≡ done core.closed m raw core → Draws core new (done_marks core.closed core.next_conn m raw)
done-draws {C} core new m raw some left = subst (λ (n : Core C). Draws core n (done_marks core.closed core.next_conn m raw)) (sym left) (by core.closed raw)
  where
    by : (closed : Bool) (raw : Option C) → Draws core (at_moment m (placed_back (done_at closed m raw core))) (done_marks closed core.next_conn m raw)
    by true raw = numbers-nothing core (at_moment m (placed_back core)) [] refl refl refl refl (omega arith)
    by false None = numbers-nothing core (at_moment m (placed_back core)) [] refl refl refl refl (omega arith)
    by false (Some raw) = record { tickets = refl; conns = refl; more_tickets = omega arith; more_conns = omega arith; few = inl (omega (arith, some)) }

pub done-stays : {C : Type 0} (core new : Core C) (m : ℕ) (raw : Option C) → new ≡ done core.closed m raw core → Stays core new
done-stays {C} core new m raw left = subst (Stays core) (sym left) (by core.closed raw)
  where
    by : (closed : Bool) (raw : Option C) → Stays core (at_moment m (placed_back (done_at closed m raw core)))
    by true raw = record { options = refl; permits = refl; shut = refl; closed = refl }
    by false None = record { options = refl; permits = refl; shut = refl; closed = refl }
    by false (Some raw) = record { options = refl; permits = refl; shut = refl; closed = refl }

closes-nothing : {C : Type 0} (n : ℕ) (idle : List (Idle C)) → (next_number asked_number n (map closed_idle idle) ≡ n) × (next_number opened_number n (map closed_idle idle) ≡ n)
closes-nothing n [] = (refl, refl)
closes-nothing n (i ∷ idle) = closes-nothing n idle

pub close-draws : {C : Type 0} (core new : Core C) (r : List (Idle C)) → r ≡ close_answer core.shut core.idle → new ≡ closed_from core.shut core → Draws core new (close_marks core.shut r)
close-draws {C} core new r is left =
    subst (λ (n : Core C). Draws core n (close_marks core.shut r)) (sym left) (subst (λ (r : List (Idle C)). Draws core (closed_from core.shut core) (close_marks core.shut r)) (sym is) (by core.shut))
  where
    by : (shut : Bool) → Draws core (closed_from shut core) (close_marks shut (close_answer shut core.idle))
    by true = numbers-nothing core core [] refl refl refl refl (omega arith)
    by false = numbers-nothing core (closed core) (Shut ∷ map closed_idle core.idle) refl refl (closes-nothing core.next_ticket core.idle).0 (closes-nothing core.next_conn core.idle).1 (omega arith)
