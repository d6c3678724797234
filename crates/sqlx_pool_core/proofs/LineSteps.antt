-- What each step of a lone pool leaves of its line.
use Rattle.std.proofs.Common.{◌≡◌, ℕ, ◌+◌, ◌^◌, ◌<◌, ◌≤◌, ◌⊎◌, min, max, inl, inr, ◌==◌, ◌&&◌, Bool, true, false, not, cond, List, [], ◌∷◌, ◌++◌, length, map, Option, Some, None, option_map, refl, sym, ap, subst, ◌∙◌, arith}
use Rattle.std.specs.Prelude.{nat_lt, if◌then◌else◌, count_by}
use Rattle.std.proofs.lemmas.Bool.{ltb-true, and_parts}
use Rattle.sqlx_pool_marks.specs.declared.mark.Mark.{Mark}
use Rattle.sqlx_pool_marks.specs.declared.mark.Mark.TheVariants.{Left, Ended}
use Rattle.sqlx_pool_marks.specs.declared.turn.Turn.{Turn}
use Rattle.sqlx_pool_marks.specs.declared.turn.Turn.TheVariants as turned
use Rattle.sqlx_pool_marks.proofs.Counting.{one, count-cons, count-push}
use Rattle.sqlx_pool_marks.specs.PollTable.{turn_at_rest}
use Rattle.sqlx_pool_lists.specs.PollTable.{is_at_rest, backs_off_until}
use Rattle.sqlx_pool_lists.specs.CoreTurn.{before, is_first_in_line, turn_of, core_turn}
use Rattle.sqlx_pool_lists.proofs.Counting.{count-ended}
use Rattle.sqlx_pool_core.proofs.TurnCases.{turn-test, turn-connect}
use Rattle.sqlx_pool_places.specs.Line.{TicketLine, is_waiting, is_below_edge, entitled, pushed, without}
use Rattle.sqlx_pool_places.proofs.Edge.{left_out, below, edge_tells}
use Rattle.sqlx_pool_lists.specs.declared.ticket.Ticket.{Ticket}
use Rattle.sqlx_pool_lists.specs.declared.ticket.OwnedConn.{OwnedConn}
use Rattle.sqlx_pool_lists.specs.declared.ticket.Phase.{Phase}
use Rattle.sqlx_pool_lists.specs.declared.ticket.Phase.TheVariants as phase
use Rattle.sqlx_pool_lists.specs.declared.steps.Idle.{Idle}
use Rattle.sqlx_pool_lists.specs.declared.steps.Lent.{Lent as LentValue}
use Rattle.sqlx_pool_lists.specs.declared.steps.Start.{Start}
use Rattle.sqlx_pool_lists.specs.declared.steps.Start.TheVariants as start
use Rattle.sqlx_pool_lists.specs.declared.steps.Given.{Given}
use Rattle.sqlx_pool_lists.specs.declared.steps.Given.TheVariants as given
use Rattle.sqlx_pool_lists.specs.declared.steps.Tried.{Tried}
use Rattle.sqlx_pool_lists.specs.declared.steps.Verdict.{Verdict}
use Rattle.sqlx_pool_lists.specs.declared.steps.Verdict.TheVariants as verdict
use Rattle.sqlx_text.specs.declared.Moment.{Moment}
use Rattle.sqlx_pool_lists.specs.declared.steps.AfterTest.{AfterTest}
use Rattle.sqlx_pool_lists.specs.declared.steps.AfterTest.TheVariants as tested
use Rattle.sqlx_pool_lists.specs.declared.steps.AfterConnect.{AfterConnect}
use Rattle.sqlx_pool_lists.specs.declared.steps.AfterConnect.TheVariants as connected
use Rattle.sqlx_pool_marks.specs.EventTable.{may_pass}
use Rattle.sqlx_pool_lists.specs.Core.{Core, is_out, has_gone, waits, waiting, gone, free, size, loan_of, ticket_of}
use Rattle.sqlx_pool_lists.specs.Edits.{at_moment, asked, unasked, with_ticket, without_ticket, to_test, to_try, to_try_at, to_next, to_connect, to_back_off}
use Rattle.sqlx_pool_lists.specs.PollSteps.{phase_for, is_in_line, start_answer, leaving, start_marks, started, cancel_marks, cancelled, judged, tested_at, test_answer, test_marks, after_test, wait_of, try_answer_at, connect_answer, connect_marks, after_connect, try_lent, try_marks, after_try}
use Rattle.sqlx_pool_lists.specs.Sound.{IsSound, IsRising, number_of}
use Rattle.sqlx_pool_core.proofs.Found.{rising-bound}
use Rattle.std.proofs.lemmas.Bool.Decides.{nat_tests}
use Rattle.sqlx_pool_lists.specs.Balance.{Balance, is_asked, is_ended, is_lent, asks, ends, lents, given_back, one_if, try_room}
use Rattle.sqlx_pool_core.specs.ReturnSteps.{give_marks, core_after_give, end_marks, released, detach_marks, leak_marks, leaked}
use Rattle.sqlx_pool_lists.specs.MaintenanceSteps.{done, has_place_if, placed, closed_from, reaped}
use Rattle.sqlx_pool_core.specs.KeptLine.{waiting_numbers, IsLined, IsNearlyLined, IsLone, leaves, taken_out}
use Rattle.sqlx_pool_lists.proofs.TicketPlaces.{all-counted}
use Rattle.sqlx_pool_core.proofs.PollCode.{among}
use Rattle.sqlx_pool_core.proofs.WaitingNumbers.{length-numbers, numbers-asked, numbers-ended, numbers-left, numbers-without, numbers-with, before-numbers}
use Rattle.sqlx_pool_core.specs.LonePool.{IfGoesOn}
use Rattle.sqlx_pool_core.proofs.KeptLine.{nearly-beside, nearly-ended, nearly-lined, nearly-asked, lined-beside, lined-past, lined-left, lined-all, one_if_waiting, Fewer, fewer, line-rises}

-- ---- a step that leaves the waiting tickets

-- The waiting tickets stay, and one more permit is free at most.
pub record Beside {C : Type 0} (old new : Core C) : Type 0 where
  pub numbers : waiting_numbers new.tickets ≡ waiting_numbers old.tickets
  pub more : free old ≤ free new
  pub most : free new ≤ free old + 1
  pub next : old.next_ticket ≤ new.next_ticket

-- what holds permits, and the waiting tickets
abbrev pub held_or_asked : {C : Type 0} → Core C → ℕ
held_or_asked core = length core.held + core.leaked + core.places + length core.tickets

pub beside-by : {C : Type 0} (old new : Core C) → IsSound old → waiting_numbers new.tickets ≡ waiting_numbers old.tickets → new.permits ≡ old.permits → held_or_asked new ≤ held_or_asked old → held_or_asked old ≤ held_or_asked new + 1 → old.next_ticket ≤ new.next_ticket → Beside old new
beside-by old new s same permits less least next =
    let w : waiting new.tickets ≡ waiting old.tickets = sym (length-numbers new.tickets) ∙ ap length same ∙ length-numbers old.tickets in
    record {
      numbers = same;
      more = omega (arith, w, permits, less, all-counted old.tickets, all-counted new.tickets, s.paid);
      most = omega (arith, w, permits, least, all-counted old.tickets, all-counted new.tickets, s.paid);
      next = next;
    }

-- a step that leaves as many of what holds permits, and the waiting tickets
lined-by : {C : Type 0} (old new : Core C) (line : TicketLine) → IsLined old line → waiting_numbers new.tickets ≡ waiting_numbers old.tickets → new.permits ≡ old.permits → held_or_asked new ≡ held_or_asked old → old.next_ticket ≤ new.next_ticket → IsLined new line
lined-by old new line l same permits as_many next =
    let w : waiting new.tickets ≡ waiting old.tickets = sym (length-numbers new.tickets) ∙ ap length same ∙ length-numbers old.tickets in
    lined-beside old new line l same (omega (arith, w, permits, as_many, all-counted old.tickets, all-counted new.tickets)) next

pub beside-self : {C : Type 0} (core : Core C) → Beside core core
beside-self core = record { numbers = refl; more = omega arith; most = omega arith; next = omega arith }

pub nearly-from : {C : Type 0} (old new : Core C) (line : TicketLine) → IsLined old line → Beside old new → IsNearlyLined new line
nearly-from old new line l b = nearly-beside old new line l b.numbers b.more b.most b.next

-- ---- a loan ends

give_at : {C : Type 0} (core : Core C) (o : Option OwnedConn) (lent : LentValue C) (m : ℕ) (r : Given C) → IsSound core → Balance core (core_after_give o lent m r core) (give_marks lent.id m r) (given_back r) 0 → Beside core (core_after_give o lent m r core)
give_at core (Some h) lent m given.Kept s moves = beside-by core (core_after_give (Some h) lent m given.Kept core) s refl refl (omega (arith, moves.held)) (omega (arith, moves.held)) (omega arith)
give_at core None lent m given.Kept s moves = beside-by core (core_after_give None lent m given.Kept core) s refl refl (omega (arith, moves.held)) (omega (arith, moves.held)) (omega arith)
give_at core o lent m (given.Closed raw) s moves = beside-by core (core_after_give o lent m (given.Closed raw) core) s refl refl (omega (arith, moves.held)) (omega (arith, moves.held)) (omega arith)
give_at core o lent m (given.NotHeld raw) s moves = beside-self core

pub give-beside : {C : Type 0} (core new : Core C) (k m : ℕ) (lent : LentValue C) (r : Given C) → IsSound core → new ≡ core_after_give (loan_of k lent.id core.held) lent m r core → Balance core new (give_marks lent.id m r) (given_back r) 0 → Beside core new
give-beside {C} core new k m lent r s is moves =
    let o = loan_of k lent.id core.held in
    subst (Beside core) (sym is) (give_at core o lent m r s (subst (λ (n : Core C). Balance core n (give_marks lent.id m r) (given_back r) 0) is moves))

release_at : {C : Type 0} (core : Core C) (c : ℕ) (r : Bool) → IsSound core → length (released c r core).held + one_if r ≡ length core.held → Beside core (released c r core)
release_at core c true s h = beside-by core (released c true core) s refl refl (omega (arith, h)) (omega (arith, h)) (omega arith)
release_at core c false s h = beside-self core

none_lent : (c : ℕ) (r : Bool) → lents (end_marks c r) ≡ 0
none_lent c true = refl
none_lent c false = refl

pub end-beside : {C : Type 0} (core new : Core C) (c : ℕ) (r : Bool) → IsSound core → new ≡ released c r core → Balance core new (end_marks c r) (one_if r) 0 → Beside core new
end-beside {C} core new c r s is moves = subst (Beside core) (sym is) (release_at core c r s (subst (λ (n : Core C). length n.held + one_if r ≡ length core.held) is (omega (arith, moves.held, none_lent c r))))

none_lent_detached : (c : ℕ) (r : Bool) → lents (detach_marks c r) ≡ 0
none_lent_detached c true = refl
none_lent_detached c false = refl

pub detach-beside : {C : Type 0} (core new : Core C) (c : ℕ) (r : Bool) → IsSound core → new ≡ released c r core → Balance core new (detach_marks c r) (one_if r) 0 → Beside core new
detach-beside {C} core new c r s is moves =
    subst (Beside core) (sym is) (release_at core c r s (subst (λ (n : Core C). length n.held + one_if r ≡ length core.held) is (omega (arith, moves.held, none_lent_detached c r))))

-- a place is given back
pub done-beside : {C : Type 0} (core new : Core C) (closed : Bool) (m : ℕ) (raw : Option C) → IsSound core → 1 ≤ core.places → new ≡ done closed m raw core → Beside core new
done-beside {C} core new closed m raw s some is = subst (Beside core) (sym is) (by closed raw)
  where
    by : (closed : Bool) (raw : Option C) → Beside core (done closed m raw core)
    by false (Some raw) = beside-by core (done false m (Some raw) core) s refl refl (omega (arith, some)) (omega (arith, some)) (omega arith)
    by false None = beside-by core (done false m None core) s refl refl (omega (arith, some)) (omega (arith, some)) (omega arith)
    by true raw = beside-by core (done true m raw core) s refl refl (omega (arith, some)) (omega (arith, some)) (omega arith)

-- a place is given back where as many permits are free as tickets wait
pub done-lined : {C : Type 0} (core new : Core C) (line : TicketLine) (closed : Bool) (m : ℕ) (raw : Option C) → IsSound core → IsLined core line → 1 ≤ core.places → new ≡ done closed m raw core → waiting core.tickets ≤ free core → IsLined new line
done-lined core new line closed m raw s l some is all = let b = done-beside core new closed m raw s some is in lined-all core new line l all b.numbers b.more b.next

-- ---- no permit is freed

leak_at : {C : Type 0} (core : Core C) (line : TicketLine) (c : ℕ) (r : Bool) → IsLined core line → Balance core (leaked c r core) (leak_marks c r) (one_if r) 0 → IsLined (leaked c r core) line
leak_at core line c true l moves = lined-beside core (leaked c true core) line l refl (omega (arith, moves.held)) (omega arith)
leak_at core line c false l moves = l

pub leak-lined : {C : Type 0} (core new : Core C) (line : TicketLine) (c : ℕ) (r : Bool) → IsLined core line → new ≡ leaked c r core → Balance core new (leak_marks c r) (one_if r) 0 → IsLined new line
leak-lined {C} core new line c r l is moves = subst (λ (n : Core C). IsLined n line) (sym is) (leak_at core line c r l (subst (λ (n : Core C). Balance core n (leak_marks c r) (one_if r) 0) is moves))

pub close-lined : {C : Type 0} (core new : Core C) (line : TicketLine) → IsLined core line → new ≡ closed_from core.shut core → IsLined new line
close-lined {C} core new line l is = subst (λ (n : Core C). IsLined n line) (sym is) (by core.shut)
  where
    by : (shut : Bool) → IsLined (closed_from shut core) line
    by true = l
    by false = lined-beside core (closed_from false core) line l refl refl (omega arith)

pub reap-lined : {C : Type 0} (core new : Core C) (line : TicketLine) (m : ℕ) (r : Option (Idle C)) → IsLined core line → new ≡ reaped m r core → IsLined new line
reap-lined {C} core new line m r l is = subst (λ (n : Core C). IsLined n line) (sym is) (by r)
  where
    by : (r : Option (Idle C)) → IsLined (reaped m r core) line
    by (Some i) = lined-beside core (reaped m (Some i) core) line l refl refl (omega arith)
    by None = l

-- ---- a permit is taken past the line

few_wait : {C : Type 0} (core : Core C) → may_pass core.closed (waiting core.tickets) (free core) ≡ true → waiting core.tickets < free core
few_wait core is = ltb-true (waiting core.tickets) (free core) (and_parts (not core.closed) (nat_lt (waiting core.tickets) (free core)) is).1

pub place-lined : {C : Type 0} (core new : Core C) (line : TicketLine) (passes : Bool) (minimum : ℕ) (r : Bool) → IsLined core line → passes ≡ may_pass core.closed (waiting core.tickets) (free core) → r ≡ has_place_if passes minimum core → new ≡ placed r core → IsLined new line
place-lined {C} core new line passes minimum r l past answer is = subst (λ (n : Core C). IsLined n line) (sym is) (by r answer)
  where
    first_of : (a b : Bool) → true ≡ (a && b) → a ≡ true
    first_of true b e = refl
    first_of false b e = sym e

    by : (r : Bool) → r ≡ has_place_if passes minimum core → IsLined (placed r core) line
    by true e =
        let few = few_wait core (sym past ∙ first_of passes (nat_lt (size core) (min minimum core.options.max_connections)) (sym (first_of (passes && nat_lt (size core) (min minimum core.options.max_connections)) (not (nat_lt (2 ^ 63) core.next_conn)) e))) in
        lined-past core (placed true core) line l few refl (omega (arith, few)) (omega arith)
    by false e = l

pub try-lined : {C : Type 0} (core new : Core C) (line : TicketLine) (passes : Bool) (k m : ℕ) (r : Option (LentValue C)) → IsLined core line → passes ≡ may_pass core.closed (waiting core.tickets) (free core) → r ≡ try_lent passes core.idle → new ≡ after_try k m r core
    → Balance core new (try_marks k r) 0 (try_room r) → IsLined new line
try-lined {C} core new line passes k m r l past answer is moves = subst (λ (n : Core C). IsLined n line) (sym is) (by r answer (subst (λ (n : Core C). Balance core n (try_marks k r) 0 (try_room r)) is moves))
  where
    lets : (b : Bool) (idle : List (Idle C)) (lent : LentValue C) → Some lent ≡ try_lent b idle → b ≡ true
    lets true idle lent e = refl
    lets false [] lent e = absurd cc
    lets false (i ∷ rest) lent e = absurd cc

    by : (r : Option (LentValue C)) → r ≡ try_lent passes core.idle → Balance core (after_try k m r core) (try_marks k r) 0 (try_room r) → IsLined (after_try k m r core) line
    by (Some lent) e moves =
        let few = few_wait core (sym past ∙ lets passes core.idle lent e) in
        lined-past core (after_try k m (Some lent) core) line l few refl (omega (arith, few, moves.held)) (omega arith)
    by None e moves = l

-- ---- the steps that end a poll

-- The client's ticket has left the line.
pub record IsGone (k t : ℕ) (tickets : List Ticket) : Type 0 where
  pub ticket : Ticket
  pub found : ticket_of k t tickets ≡ Some ticket
  pub out : waits ticket ≡ false

module _ {C : Type 0} (core : Core C) (s : IsSound core) (k t : ℕ) (g : IsGone k t core.tickets) where
  ended_so : waiting_numbers (without_ticket t core.tickets) ≡ waiting_numbers core.tickets
  ended_so = numbers-without t g.ticket core.tickets (among core k t g.ticket s g.found) g.out

  changed_so : (f : Ticket → Ticket) → waits (f g.ticket) ≡ false → waiting_numbers (with_ticket t f core.tickets) ≡ waiting_numbers core.tickets
  changed_so f still = numbers-with t g.ticket f core.tickets (among core k t g.ticket s g.found) g.out still

  test_at : (c : ℕ) (r : AfterTest C) → Balance core (after_test k t r core) (test_marks k t c r) 0 0 → Beside core (after_test k t r core)
  test_at c (tested.NotHeld v) m = beside-self core
  test_at c (tested.Closed raw) m = beside-by core (after_test k t (tested.Closed raw) core) s ended_so refl (omega (arith, m.tickets, m.held)) (omega (arith, m.tickets, m.held)) (omega arith)
  test_at c (tested.Ready lent) m = beside-by core (after_test k t (tested.Ready lent) core) s ended_so refl (omega (arith, m.tickets, m.held)) (omega (arith, m.tickets, m.held)) (omega arith)
  test_at c (tested.Test i) m = beside-by core (after_test k t (tested.Test i) core) s (changed_so (to_next i) refl) refl (omega (arith, m.tickets, m.held)) (omega (arith, m.tickets, m.held)) (omega arith)
  test_at c tested.Connect m = beside-by core (after_test k t tested.Connect core) s (changed_so to_connect refl) refl (omega (arith, m.tickets, m.held)) (omega (arith, m.tickets, m.held)) (omega arith)

  connect_at : (m : ℕ) (r : AfterConnect C) → Balance core (after_connect k t m r core) (connect_marks k t m r) 0 0 → Beside core (after_connect k t m r core)
  connect_at n (connected.NotHeld a) m = beside-self core
  connect_at n (connected.Closed raw) m = beside-by core (after_connect k t n (connected.Closed raw) core) s ended_so refl (omega (arith, m.tickets, m.held)) (omega (arith, m.tickets, m.held)) (omega arith)
  connect_at n (connected.Ready lent) m = beside-by core (after_connect k t n (connected.Ready lent) core) s ended_so refl (omega (arith, m.tickets, m.held)) (omega (arith, m.tickets, m.held)) (omega arith)
  connect_at n (connected.Backoff until) m =
      beside-by core (after_connect k t n (connected.Backoff until) core) s (changed_so (λ (x : Ticket). to_back_off (wait_of x) until x) refl) refl (omega (arith, m.tickets, m.held)) (omega (arith, m.tickets, m.held)) (omega arith)
  connect_at n connected.Ended m = beside-by core (after_connect k t n connected.Ended core) s ended_so refl (omega (arith, m.tickets, m.held)) (omega (arith, m.tickets, m.held)) (omega arith)

  -- a test in an open pool frees no permit
  test_kept : (line : TicketLine) (l : IsLined core line) (c : ℕ) (r : AfterTest C) → Balance core (after_test k t r core) (test_marks k t c r) 0 0 → ((raw : Option C) → r ≡ tested.Closed raw → ⊥) → IsLined (after_test k t r core) line
  test_kept line l c (tested.NotHeld v) m none = l
  test_kept line l c (tested.Closed raw) m none = absurd (none raw refl)
  test_kept line l c (tested.Ready lent) m none = lined-by core (after_test k t (tested.Ready lent) core) line l ended_so refl (omega (arith, m.tickets, m.held)) (omega arith)
  test_kept line l c (tested.Test i) m none = lined-by core (after_test k t (tested.Test i) core) line l (changed_so (to_next i) refl) refl (omega (arith, m.tickets, m.held)) (omega arith)
  test_kept line l c tested.Connect m none = lined-by core (after_test k t tested.Connect core) line l (changed_so to_connect refl) refl (omega (arith, m.tickets, m.held)) (omega arith)

out_in : (x : Ticket) (p : Phase) → x.phase ≡ p → is_out p ≡ true → waits x ≡ false
out_in x p is out = ap (λ (q : Phase). not (is_out q)) is ∙ ap not out

module _ {C : Type 0} (core new : Core C) (s : IsSound core) (k t : ℕ) where
  test_answered : (v : Verdict C) (shut next : Bool) (r : AfterTest C) → r ≡ test_answer (tested_at (judged v) (phase_for k t core.tickets)) shut next core.idle v → (r ≡ tested.NotHeld v) ⊎ IsGone k t core.tickets
  test_answered v shut next r is = by (ticket_of k t core.tickets) refl is
    where
      by_phase : (x : Ticket) → ticket_of k t core.tickets ≡ Some x → (p : Phase) → x.phase ≡ p → r ≡ test_answer (tested_at (judged v) (Some p)) shut next core.idle v → (r ≡ tested.NotHeld v) ⊎ IsGone k t core.tickets
      by_phase x e (phase.Testing d created before) is a = inr (record { ticket = x; found = e; out = out_in x (phase.Testing d created before) is refl })
      by_phase x e phase.Waiting is a = inl a
      by_phase x e phase.Connecting is a = inl a
      by_phase x e (phase.Backoff until) is a = inl a

      by : (o : Option Ticket) → ticket_of k t core.tickets ≡ o → r ≡ test_answer (tested_at (judged v) (option_map (λ (x : Ticket). x.phase) o)) shut next core.idle v → (r ≡ tested.NotHeld v) ⊎ IsGone k t core.tickets
      by None e a = inl a
      by (Some x) e a = by_phase x e x.phase refl a

  pub test-beside : (v : Verdict C) (shut next : Bool) (r : AfterTest C) → r ≡ test_answer (tested_at (judged v) (phase_for k t core.tickets)) shut next core.idle v → new ≡ after_test k t r core → Balance core new (test_marks k t (judged v) r) 0 0 → Beside core new
  test-beside v shut next r answer is moves = by (test_answered v shut next r answer)
    where
      by : (r ≡ tested.NotHeld v) ⊎ IsGone k t core.tickets → Beside core new
      by (inl none) = subst (Beside core) (sym (is ∙ ap (λ (a : AfterTest C). after_test k t a core) none)) (beside-self core)
      by (inr g) = subst (Beside core) (sym is) (test_at core s k t g (judged v) r (subst (λ (n : Core C). Balance core n (test_marks k t (judged v) r) 0 0) is moves))

  open_test : (o : Option Moment) (next : Bool) (idle : List (Idle C)) (v : Verdict C) (raw : Option C) → tested.Closed raw ≡ test_answer o false next idle v → ⊥
  open_test None next idle v raw e = cc
  open_test (Some created) next idle (verdict.Accepted lent) raw e = cc
  open_test (Some created) true (i ∷ rest) (verdict.Refused n) raw e = cc
  open_test (Some created) true [] (verdict.Refused n) raw e = cc
  open_test (Some created) false idle (verdict.Refused n) raw e = cc

  pub test-lined : (line : TicketLine) (v : Verdict C) (shut next : Bool) (r : AfterTest C) → IsLined core line → r ≡ test_answer (tested_at (judged v) (phase_for k t core.tickets)) shut next core.idle v → new ≡ after_test k t r core
      → Balance core new (test_marks k t (judged v) r) 0 0 → shut ≡ false → IsLined new line
  test-lined line v shut next r l answer is moves open_is = subst (λ (n : Core C). IsLined n line) (sym is) (by (test_answered v shut next r answer))
    where
      none : (raw : Option C) → r ≡ tested.Closed raw → ⊥
      none raw e = open_test (tested_at (judged v) (phase_for k t core.tickets)) next core.idle v raw (sym e ∙ answer ∙ ap (λ (b : Bool). test_answer (tested_at (judged v) (phase_for k t core.tickets)) b next core.idle v) open_is)

      by : (r ≡ tested.NotHeld v) ⊎ IsGone k t core.tickets → IsLined (after_test k t r core) line
      by (inl same) = subst (λ (a : AfterTest C). IsLined (after_test k t a core) line) (sym same) l
      by (inr g) = test_kept core s k t g line l (judged v) r (subst (λ (n : Core C). Balance core n (test_marks k t (judged v) r) 0 0) is moves) none

  connect_answered : (shut : Bool) (n m : ℕ) (a : Tried C) (r : AfterConnect C) → r ≡ connect_answer (ticket_of k t core.tickets) shut n m a → (r ≡ connected.NotHeld a) ⊎ IsGone k t core.tickets
  connect_answered shut n m a r is = by (ticket_of k t core.tickets) refl is
    where
      by_phase : (x : Ticket) → ticket_of k t core.tickets ≡ Some x → (p : Phase) → x.phase ≡ p → r ≡ try_answer_at p x shut n m a → (r ≡ connected.NotHeld a) ⊎ IsGone k t core.tickets
      by_phase x e phase.Connecting is w = inr (record { ticket = x; found = e; out = out_in x phase.Connecting is refl })
      by_phase x e phase.Waiting is w = inl w
      by_phase x e (phase.Testing d created before) is w = inl w
      by_phase x e (phase.Backoff until) is w = inl w

      by : (o : Option Ticket) → ticket_of k t core.tickets ≡ o → r ≡ connect_answer o shut n m a → (r ≡ connected.NotHeld a) ⊎ IsGone k t core.tickets
      by None e w = inl w
      by (Some x) e w = by_phase x e x.phase refl w

  pub connect-beside : (shut : Bool) (n m : ℕ) (a : Tried C) (r : AfterConnect C) → r ≡ connect_answer (ticket_of k t core.tickets) shut n m a → new ≡ after_connect k t m r core → Balance core new (connect_marks k t m r) 0 0 → Beside core new
  connect-beside shut n m a r answer is moves = by (connect_answered shut n m a r answer)
    where
      by : (r ≡ connected.NotHeld a) ⊎ IsGone k t core.tickets → Beside core new
      by (inl none) = subst (Beside core) (sym (is ∙ ap (λ (w : AfterConnect C). after_connect k t m w core) none)) (beside-self core)
      by (inr g) = subst (Beside core) (sym is) (connect_at core s k t g m r (subst (λ (c : Core C). Balance core c (connect_marks k t m r) 0 0) is moves))

-- ---- a ticket goes

-- what becomes of the counts
module _ {C : Type 0} (core new : Core C) (line : TicketLine) (t : ℕ) (s : IsSound core) (l : IsLined core line) (same : waiting_numbers new.tickets ≡ left_out t (waiting_numbers core.tickets)) (permits : new.permits ≡ core.permits) where
  gone_by : Fewer t line
  gone_by = fewer t 1 core.next_ticket line (line-rises core line s l)

  were : length line.waiting ≡ waiting core.tickets
  were = ap length l.numbers ∙ length-numbers core.tickets

  are : length (without t line).waiting ≡ waiting new.tickets
  are = ap (λ ks. length (left_out t ks)) l.numbers ∙ sym (ap length same) ∙ length-numbers new.tickets

  goes-ended : held_or_asked new + 1 ≡ held_or_asked core → core.next_ticket ≤ new.next_ticket → IsNearlyLined new (without t line)
  goes-ended less next =
      nearly-ended core new t line s l same (omega (arith, permits, less, were, are, gone_by.waiting, gone_by.is_one, gone_by.small, all-counted core.tickets, all-counted new.tickets, s.paid)) next

  goes-left : IsSound new → held_or_asked new ≡ held_or_asked core → (is_waiting t line ≡ true → is_below_edge t line ≡ true) → core.next_ticket ≤ new.next_ticket → IsLined new (without t line)
  goes-left n as_many entitled next =
      lined-left core new t line s l same (omega (arith, permits, as_many, were, are, gone_by.waiting, gone_by.is_one, gone_by.small, all-counted core.tickets, all-counted new.tickets, s.paid, n.paid)) entitled next

-- a cancel
pub cancel-nearly : {C : Type 0} (core new : Core C) (line : TicketLine) (t : ℕ) (r : Bool) → IsSound core → IsLined core line → new ≡ cancelled t r core → Balance core new (cancel_marks t r) 0 0 → IsNearlyLined new (taken_out r t line)
cancel-nearly {C} core new line t r s l is moves = subst (λ (n : Core C). IsNearlyLined n (taken_out r t line)) (sym is) (by r (subst (λ (n : Core C). Balance core n (cancel_marks t r) 0 0) is moves))
  where
    by : (r : Bool) → Balance core (cancelled t r core) (cancel_marks t r) 0 0 → IsNearlyLined (cancelled t r core) (taken_out r t line)
    by true m = goes-ended core (cancelled t true core) line t s l (numbers-ended t core.tickets) refl (omega (arith, m.tickets, m.held)) (omega arith)
    by false m = nearly-from core core line l (beside-self core)

-- ---- the start of a poll

tries_out : (m : ℕ) (x : Ticket) → waits (to_try m x) ≡ false
tries_out m x = by x.phase
  where
    by : (p : Phase) → waits (to_try_at m p x) ≡ false
    by phase.Waiting = refl
    by (phase.Testing c created before) = refl
    by phase.Connecting = refl
    by (phase.Backoff until) = refl

-- leaving the line is neither an ask nor an end nor a loan
leaving_counts : (count : Mark → Bool) (t : ℕ) → count (Left t) ≡ false → (p : Option Phase) (later : List Mark) → count_by count (leaving t p later) ≡ count_by count later
leaving_counts count t none None later = refl
leaving_counts count t none (Some phase.Waiting) later = count-cons count (Left t) later ∙ ap (λ b. cond {A = ℕ} b 1 0 + count_by count later) none ∙ omega arith
leaving_counts count t none (Some (phase.Testing c created before)) later = refl
leaving_counts count t none (Some phase.Connecting) later = refl
leaving_counts count t none (Some (phase.Backoff until)) later = refl

abbrev goes_on : {C : Type 0} → Start C → Bool
goes_on (start.Test i) = true
goes_on start.Connect = true
goes_on other = false

-- A ticket that goes on to a test or a connect was entitled, or had left the line.
pub record GoesOn (q : Bool) (k t : ℕ) (tickets : List Ticket) : Type 0 where
  pub why : (q ≡ true) ⊎ IsGone k t tickets

module _ {C : Type 0} (core : Core C) (q : Bool) (k t m : ℕ) where
  by_test : (o : Option Ticket) → ticket_of k t core.tickets ≡ o → turn_of q core.closed m core o ≡ turned.Test → GoesOn q k t core.tickets
  by_test None e is = absurd cc
  by_test (Some x) e is = record { why = inl (turn-test q core.closed core m x is).leaves.entitled }

  by_connect : (o : Option Ticket) → ticket_of k t core.tickets ≡ o → turn_of q core.closed m core o ≡ turned.Connect → GoesOn q k t core.tickets
  by_connect None e is = absurd cc
  by_connect (Some x) e is = elim (turn-connect q core.closed core m x is) [
    | inl first ↦ record { why = inl first.leaves.entitled }
    | inr backs ↦ record { why = inr (record { ticket = x; found = e; out = out_in x (phase.Backoff backs.until) backs.backs_off refl }) }
  ]

  by_turn : (u : Turn) → turn_of q core.closed m core (ticket_of k t core.tickets) ≡ u → (r : Start C) → r ≡ start_answer u core.idle → goes_on r ≡ true → GoesOn q k t core.tickets
  by_turn turned.Test is r a on = by_test (ticket_of k t core.tickets) refl is
  by_turn turned.Connect is r a on = by_connect (ticket_of k t core.tickets) refl is
  by_turn turned.NotHeld is r a on = absurd (let no : false ≡ true = sym (ap goes_on a) ∙ on in cc)
  by_turn turned.Closed is r a on = absurd (let no : false ≡ true = sym (ap goes_on a) ∙ on in cc)
  by_turn turned.TimedOut is r a on = absurd (let no : false ≡ true = sym (ap goes_on a) ∙ on in cc)
  by_turn turned.Exhausted is r a on = absurd (let no : false ≡ true = sym (ap goes_on a) ∙ on in cc)
  by_turn turned.Waiting is r a on = absurd (let no : false ≡ true = sym (ap goes_on a) ∙ on in cc)
  by_turn (turned.Backoff until) is r a on = absurd (let no : false ≡ true = sym (ap goes_on a) ∙ on in cc)

-- a ticket that has left the line doesn't wait in it
gone_not_waiting : {C : Type 0} (core : Core C) (line : TicketLine) (k t : ℕ) → IsSound core → IsLined core line → IsGone k t core.tickets → is_waiting t line ≡ true → is_below_edge t line ≡ true
gone_not_waiting core line k t s l g waits =
    let f = fewer t 1 core.next_ticket line (line-rises core line s l) in
    let kept : length (left_out t (waiting_numbers core.tickets)) ≡ length (waiting_numbers core.tickets) =
    ap length (sym (numbers-ended t core.tickets) ∙ numbers-without t g.ticket core.tickets (among core k t g.ticket s g.found) g.out) in
    let there : length (without t line).waiting ≡ length line.waiting = ap (λ ks. length (left_out t ks)) l.numbers ∙ kept ∙ sym (ap length l.numbers) in
    let one : one_if_waiting t line ≡ 1 = ap (λ b. cond {A = ℕ} b 1 0) waits in
    absurd (omega (arith, f.waiting, f.is_one, there, one))

entitled_below : (waits below q : Bool) → q ≡ (waits && below) → q ≡ true → below ≡ true
entitled_below true below q is e = sym is ∙ e
entitled_below false below q is e = absurd (let no : false ≡ true = sym is ∙ e in cc)

module _ {C : Type 0} (core : Core C) (line : TicketLine) (q : Bool) (k t m : ℕ) (s : IsSound core) (l : IsLined core line) (told : q ≡ (is_in_line (phase_for k t core.tickets) && is_below_edge t line)) where
  below_edge : GoesOn q k t core.tickets → is_waiting t line ≡ true → is_below_edge t line ≡ true
  below_edge g w = elim g.why [
    | inl e ↦ entitled_below (is_in_line (phase_for k t core.tickets)) (is_below_edge t line) q told e
    | inr gone ↦ gone_not_waiting core line k t s l gone w
  ]

  starts_test : (i : Idle C) → start.Test i ≡ start_answer (turn_of q core.closed m core (ticket_of k t core.tickets)) core.idle → IsSound (started t m (start.Test i) core)
      → Balance core (started t m (start.Test i) core) (start_marks t (phase_for k t core.tickets) (start.Test i)) 0 0 → IsLined (started t m (start.Test i) core) (without t line)
  starts_test i a n v =
      goes-left core (started t m (start.Test i) core) line t s l (numbers-left t (to_test m i) core.tickets (λ x. refl)) refl n (omega (arith, v.tickets, v.held)) (below_edge (by_turn core q k t m (turn_of q core.closed m core (ticket_of k t core.tickets)) refl (start.Test i) a refl)) (omega arith)

  starts_connect : start.Connect ≡ start_answer (turn_of q core.closed m core (ticket_of k t core.tickets)) core.idle → IsSound (started t m start.Connect core)
      → Balance core (started t m start.Connect core) (start_marks {C = C} t (phase_for k t core.tickets) start.Connect) 0 0 → IsLined (started t m start.Connect core) (without t line)
  starts_connect a n v =
      let asks_none : asks (leaving t (phase_for k t core.tickets) []) ≡ 0 = leaving_counts is_asked t refl (phase_for k t core.tickets) [] in
      let ends_none : ends (leaving t (phase_for k t core.tickets) []) ≡ 0 = leaving_counts is_ended t refl (phase_for k t core.tickets) [] in
      let lends_none : lents (leaving t (phase_for k t core.tickets) []) ≡ 0 = leaving_counts is_lent t refl (phase_for k t core.tickets) [] in
      goes-left core (started t m start.Connect core) line t s l (numbers-left t (to_try m) core.tickets (tries_out m)) refl n (omega (arith, v.tickets, v.held, asks_none, ends_none, lends_none)) (below_edge (by_turn core q k t m (turn_of q core.closed m core (ticket_of k t core.tickets)) refl start.Connect a refl)) (omega arith)

-- a ticket that goes on leaves the line with a permit
pub start-lined : {C : Type 0} (core new : Core C) (line : TicketLine) (q : Bool) (k t m : ℕ) (r : Start C) → IsSound core → IsSound new → IsLined core line → q ≡ (is_in_line (phase_for k t core.tickets) && is_below_edge t line)
    → r ≡ start_answer (turn_of q core.closed m core (ticket_of k t core.tickets)) core.idle → new ≡ started t m r core → Balance core new (start_marks t (phase_for k t core.tickets) r) 0 0 → IfGoesOn r (IsLined new (taken_out (leaves r) t line))
start-lined {C} core new line q k t m r s n l told answer is moves =
    subst (λ (n : Core C). IfGoesOn r (IsLined n (taken_out (leaves r) t line))) (sym is)
    (by r answer (subst IsSound is n) (subst (λ (n : Core C). Balance core n (start_marks t (phase_for k t core.tickets) r) 0 0) is moves))
  where
    by : (r : Start C) → r ≡ start_answer (turn_of q core.closed m core (ticket_of k t core.tickets)) core.idle → IsSound (started t m r core) → Balance core (started t m r core) (start_marks t (phase_for k t core.tickets) r) 0 0
        → IfGoesOn r (IsLined (started t m r core) (taken_out (leaves r) t line))
    by start.NotHeld a n v = tt
    by start.Waiting a n v = tt
    by (start.Backoff until) a n v = tt
    by start.Closed a n v = tt
    by start.TimedOut a n v = tt
    by start.Exhausted a n v = tt
    by (start.Test i) a n v = starts_test core line q k t m s l told i a n v
    by start.Connect a n v = starts_connect core line q k t m s l told a n v

pub start-nearly : {C : Type 0} (core new : Core C) (line : TicketLine) (q : Bool) (k t m : ℕ) (r : Start C) → IsSound core → IsSound new → IsLined core line → q ≡ (is_in_line (phase_for k t core.tickets) && is_below_edge t line)
    → r ≡ start_answer (turn_of q core.closed m core (ticket_of k t core.tickets)) core.idle → new ≡ started t m r core → Balance core new (start_marks t (phase_for k t core.tickets) r) 0 0 → IsNearlyLined new (taken_out (leaves r) t line)
start-nearly {C} core new line q k t m r s n l told answer is moves =
    subst (λ (n : Core C). IsNearlyLined n (taken_out (leaves r) t line)) (sym is)
    (by r answer (subst IsSound is n) (subst (λ (n : Core C). Balance core n (start_marks t (phase_for k t core.tickets) r) 0 0) is moves))
  where
    p : Option Phase
    p = phase_for k t core.tickets

    by : (r : Start C) → r ≡ start_answer (turn_of q core.closed m core (ticket_of k t core.tickets)) core.idle → IsSound (started t m r core) → Balance core (started t m r core) (start_marks t p r) 0 0 → IsNearlyLined (started t m r core) (taken_out (leaves r) t line)
    by start.NotHeld a n v = nearly-from core core line l (beside-self core)
    by start.Waiting a n v = nearly-from core core line l (beside-self core)
    by (start.Backoff until) a n v = nearly-from core core line l (beside-self core)
    by start.Closed a n v = goes-ended core (started t m start.Closed core) line t s l (numbers-ended t core.tickets) refl (omega (arith, v.tickets, v.held)) (omega arith)
    by start.TimedOut a n v = goes-ended core (started t m start.TimedOut core) line t s l (numbers-ended t core.tickets) refl (omega (arith, v.tickets, v.held)) (omega arith)
    by start.Exhausted a n v =
        let asks_none : asks (leaving t p (Ended t ∷ [])) ≡ 0 = leaving_counts is_asked t refl p (Ended t ∷ []) in
        let ends_one : ends (leaving t p (Ended t ∷ [])) ≡ 1 = leaving_counts is_ended t refl p (Ended t ∷ []) in
        let lends_none : lents (leaving t p (Ended t ∷ [])) ≡ 0 = leaving_counts is_lent t refl p (Ended t ∷ []) in
        goes-ended core (started t m start.Exhausted core) line t s l (numbers-ended t core.tickets) refl (omega (arith, v.tickets, v.held, asks_none, ends_one, lends_none)) (omega arith)
    by (start.Test i) a n v = nearly-lined _ _ (starts_test core line q k t m s l told i a n v)
    by start.Connect a n v = nearly-lined _ _ (starts_connect core line q k t m s l told a n v)

-- ---- who is entitled

-- the client's ticket waits in the line
pub waits_there : {C : Type 0} (core : Core C) (line : TicketLine) (k t : ℕ) (x : Ticket) → IsSound core → IsLined core line → ticket_of k t core.tickets ≡ Some x → waits x ≡ true → is_waiting t line ≡ true
waits_there core line k t x s l found w = by (is_waiting t line) refl
  where
    by : (b : Bool) → is_waiting t line ≡ b → b ≡ true
    by true is = refl
    by false is =
        let f = fewer t 1 core.next_ticket line (line-rises core line s l) in
        let none : one_if_waiting t line ≡ 0 = ap (λ b. cond {A = ℕ} b 1 0) is in
        let are : length (without t line).waiting ≡ waiting (without_ticket t core.tickets) = ap (λ ks. length (left_out t ks)) l.numbers ∙ sym (ap length (numbers-ended t core.tickets)) ∙ length-numbers (without_ticket t core.tickets) in
        let were : length line.waiting ≡ waiting core.tickets = ap length l.numbers ∙ length-numbers core.tickets in
        let one : one waits x ≡ 1 = ap (λ b. cond {A = ℕ} b 1 0) w in
        absurd (omega (arith, f.waiting, f.is_one, none, are, were, one, count-ended waits t x core.tickets (among core k t x s found)))

-- below the edge means first in line
pub edge-first : {C : Type 0} (core : Core C) (line : TicketLine) (k t : ℕ) (x : Ticket) → IsSound core → IsLined core line → ticket_of k t core.tickets ≡ Some x → waits x ≡ true → is_below_edge t line ≡ is_first_in_line t core
edge-first core line k t x s l found w =
    edge_tells (free core) t line l.served (waits_there core line k t x s l found w)
    ∙ ap (λ (n : ℕ). nat_lt n (free core)) (ap (below t) l.numbers ∙ sym (before-numbers k t x 1 core.tickets core.next_ticket s.rising found))

-- the turn that the line tells is the turn by the tickets before it
pub turn-told : {C : Type 0} (core : Core C) (line : TicketLine) (q : Bool) (k t m : ℕ) → IsSound core → IsLined core line → q ≡ (is_in_line (phase_for k t core.tickets) && is_below_edge t line) → turn_of q core.closed m core (ticket_of k t core.tickets) ≡ turn_of (is_first_in_line t core) core.closed m core (ticket_of k t core.tickets)
turn-told core line q k t m s l told = by (ticket_of k t core.tickets) refl told
  where
    by_phase : (x : Ticket) → ticket_of k t core.tickets ≡ Some x → (p : Phase) → x.phase ≡ p → q ≡ (is_in_line (Some p) && is_below_edge t line)
        → (if is_at_rest p then turn_at_rest m q core.closed core.next_conn core.idle x.deadline (is_out p) (backs_off_until p) else turned.NotHeld)
        ≡ (if is_at_rest p then turn_at_rest m (is_first_in_line t core) core.closed core.next_conn core.idle x.deadline (is_out p) (backs_off_until p) else turned.NotHeld)
    by_phase x e phase.Waiting is told =
        let same : q ≡ is_first_in_line t core = told ∙ edge-first core line k t x s l e (ap (λ (p : Phase). not (is_out p)) is) in
        ap (λ (b : Bool). turn_at_rest m b core.closed core.next_conn core.idle x.deadline false 0) same
    by_phase x e (phase.Backoff until) is told = refl
    by_phase x e (phase.Testing c created before) is told = refl
    by_phase x e phase.Connecting is told = refl

    by : (o : Option Ticket) → ticket_of k t core.tickets ≡ o → q ≡ (is_in_line (option_map (λ (x : Ticket). x.phase) o) && is_below_edge t line) → turn_of q core.closed m core o ≡ turn_of (is_first_in_line t core) core.closed m core o
    by None e told = refl
    by (Some x) e told = by_phase x e x.phase refl told

-- who is told to be entitled is first in line
pub told-first : {C : Type 0} (core : Core C) (line : TicketLine) (q : Bool) (k t : ℕ) → IsSound core → IsLined core line → q ≡ (is_in_line (phase_for k t core.tickets) && is_below_edge t line) → q ≡ true → before t core.tickets < free core
told-first core line q k t s l told is = by (ticket_of k t core.tickets) refl told
  where
    by_phase : (x : Ticket) → ticket_of k t core.tickets ≡ Some x → (p : Phase) → x.phase ≡ p → q ≡ (is_in_line (Some p) && is_below_edge t line) → before t core.tickets < free core
    by_phase x e phase.Waiting at told = ltb-true (before t core.tickets) (free core) (sym (told ∙ edge-first core line k t x s l e (ap (λ (p : Phase). not (is_out p)) at)) ∙ is)
    by_phase x e (phase.Backoff until) at told = absurd (let no : false ≡ true = sym told ∙ is in cc)
    by_phase x e (phase.Testing c created before) at told = absurd (let no : false ≡ true = sym told ∙ is in cc)
    by_phase x e phase.Connecting at told = absurd (let no : false ≡ true = sym told ∙ is in cc)

    by : (o : Option Ticket) → ticket_of k t core.tickets ≡ o → q ≡ (is_in_line (option_map (λ (x : Ticket). x.phase) o) && is_below_edge t line) → before t core.tickets < free core
    by None e told = absurd (let no : false ≡ true = sym told ∙ is in cc)
    by (Some x) e told = by_phase x e x.phase refl told

-- what a lone pool answers to the start of a poll
pub start-told : {C : Type 0} (core now : Core C) (line : TicketLine) (q : Bool) (k t m n : ℕ) (r : Start C) → core ≡ now → core.closed ≡ core.shut → IsSound core → IsLined core line → q ≡ (is_in_line (phase_for k t core.tickets) && is_below_edge t line)
    → m ≡ max core.last n → r ≡ start_answer (turn_of q core.closed m core (ticket_of k t core.tickets)) core.idle → r ≡ start_answer (core_turn now k t (max now.last n)) now.idle
start-told {C} core now line q k t m n r view closed s l told at is =
    subst (λ (c : Core C). r ≡ start_answer (core_turn c k t (max c.last n)) c.idle) view
    (is ∙ ap (λ (u : Turn). start_answer u core.idle) (turn-told core line q k t m s l told)
    ∙ (λ i. start_answer (turn_of (is_first_in_line t core) (closed i) (at i) core (ticket_of k t core.tickets)) core.idle))

-- ---- an ask

pub without_last : (n low : ℕ) (xs : List Ticket) (x : Ticket) → IsRising low (map number_of xs) n → x.number ≡ n → without_ticket n (xs ++ x ∷ []) ≡ xs
without_last n low [] x r is = let e : (n == x.number) ≡ true = grind (arith, nat_tests) in rw e refl
without_last n low (y ∷ xs) x r is =
    let l : y.number + 1 ≤ n = rising-bound (y.number + 1) (map number_of xs) n r.1 in
    let e : (n == y.number) ≡ false = grind (arith, nat_tests) in
    rw e (ap (λ rest. y ∷ rest) (without_last n (y.number + 1) xs x r.1 is))

-- what a taken back ask leaves
pub asked-unasked : {C : Type 0} (core new : Core C) (k d m : ℕ) → IsSound core → new ≡ at_moment m (asked k d core) → unasked core.next_ticket core.last new ≡ core
asked-unasked {C} core new k d m s is =
    let x : Ticket = record { number = core.next_ticket; client = k; deadline = d; phase = phase.Waiting; first_try = record { 0 = 0 }; last_wait = None } in
    ap (λ (n : Core C). unasked core.next_ticket core.last n) is ∙ ap (λ (tickets : List Ticket). record core { tickets = tickets }) (without_last core.next_ticket 1 core.tickets x s.rising refl)

-- the same, by what the steps told
pub taken-back : {C : Type 0} (core new : Core C) (t k d m last : ℕ) → IsSound core → t ≡ core.next_ticket → last ≡ max core.last 0 → new ≡ at_moment m (asked k d core) → unasked t last new ≡ core
taken-back core new t k d m last s number at is =
    let same : last ≡ core.last = omega (arith, at) in
    (λ i. unasked (number i) (same i) new) ∙ asked-unasked core new k d m s is

-- an ask
pub asked-nearly : {C : Type 0} (core new : Core C) (line : TicketLine) (k d m : ℕ) → IsLined core line → new ≡ at_moment m (asked k d core) → IsNearlyLined new (pushed core.next_ticket line)
asked-nearly {C} core new line k d m l is =
    let x : Ticket = record { number = core.next_ticket; client = k; deadline = d; phase = phase.Waiting; first_try = record { 0 = 0 }; last_wait = None } in
    let g : gone (core.tickets ++ x ∷ []) ≡ gone core.tickets + 0 = count-push has_gone core.tickets x in
    subst (λ (n : Core C). IsNearlyLined n (pushed core.next_ticket line)) (sym is) (nearly-asked core (at_moment m (asked k d core)) line l (numbers-asked core.tickets x refl) (omega (arith, g)) refl)

-- an ask that wants memory leaves the pool and its line
pub lone-back : {C : Type 0} (core new : Core C) (line mid : TicketLine) (t : ℕ) (joined : Bool) → IsLone core line → new ≡ core → mid ≡ cond joined (pushed t line) line → joined ≡ false → IsLone new mid
lone-back {C} core new line mid t joined lone back is none =
    let same : mid ≡ line = is ∙ ap (λ b. cond b (pushed t line) line) none in
    subst (λ (c : Core C). IsLone c mid) (sym back) (subst (IsLone core) (sym same) lone)

pub has-joined : (line mid : TicketLine) (t n : ℕ) (joined : Bool) → mid ≡ cond joined (pushed t line) line → joined ≡ true → t ≡ n → mid ≡ pushed n line
has-joined line mid t n joined is done same = is ∙ ap (λ b. cond b (pushed t line) line) done ∙ ap (λ (k : ℕ). pushed k line) same
