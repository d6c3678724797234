-- What each step does to the counts of a core, from what it answered and what it left.
use Rattle.std.proofs.Common.{◌≡◌, ℕ, suc, ◌+◌, ◌-◌, ◌*◌, ◌^◌, ◌≤◌, Bool, true, false, cond, not, ◌==◌, ◌&&◌, nat_le, nat_lt, List, [], ◌∷◌, ◌++◌, map, drop, find, length, Option, Some, None, is_some, option_map, refl, sym, ap, ◌∙◌, subst, arith, count_by, length-append}
use Rattle.sqlx_text.specs.declared.Moment.{Moment}
use Rattle.sqlx_pool_lists.specs.Limits.{limits_of}
use Rattle.sqlx_pool_marks.specs.declared.mark.Mark.{Mark}
use Rattle.sqlx_pool_marks.specs.declared.mark.Mark.TheVariants.{Asked, Left, Taken, Reaped, Opened, Lent, Kept, Closed, Detached, Leaked, Ended, Shut}
use Rattle.sqlx_pool_lists.specs.declared.ticket.Ticket.{Ticket}
use Rattle.sqlx_pool_lists.specs.declared.ticket.OwnedConn.{OwnedConn}
use Rattle.sqlx_pool_lists.specs.declared.ticket.Phase.{Phase}
use Rattle.sqlx_pool_lists.specs.declared.ticket.Phase.TheVariants as phase
use Rattle.sqlx_pool_marks.specs.declared.turn.Turn.TheVariants as turned
use Rattle.sqlx_pool_lists.specs.declared.steps.Idle.{Idle}
use Rattle.sqlx_pool_lists.specs.declared.steps.Lent.{Lent as LentValue}
use Rattle.sqlx_pool_lists.specs.declared.steps.Start.{Start}
use Rattle.sqlx_pool_lists.specs.declared.steps.Verdict.{Verdict}
use Rattle.sqlx_pool_lists.specs.declared.steps.Verdict.TheVariants as verdict
use Rattle.sqlx_pool_lists.specs.declared.steps.AfterTest.{AfterTest}
use Rattle.sqlx_pool_lists.specs.declared.steps.Tried.{Tried}
use Rattle.sqlx_pool_lists.specs.declared.steps.Tried.TheVariants as tried
use Rattle.sqlx_pool_lists.specs.declared.steps.AfterConnect.{AfterConnect}
use Rattle.sqlx_pool_lists.specs.declared.steps.Given.{Given}
use Rattle.sqlx_pool_lists.specs.declared.steps.Given.TheVariants as given
use Rattle.sqlx_pool_lists.specs.Core.{Core, is_out, waits, ticket_of, loan_of}
use Rattle.sqlx_pool_lists.specs.Sound.{IsSound, holds, rests}
use Rattle.sqlx_pool_lists.specs.Place.{IsAmong}
use Rattle.sqlx_pool_lists.specs.CoreTurn.{turn_of}
use Rattle.sqlx_pool_marks.specs.PollTable.{in_time, first_idle}
use Rattle.sqlx_pool_lists.specs.PollTable.{is_at_rest, backs_off_until}
use Rattle.sqlx_pool_lists.specs.Edits.{with_ticket, without_ticket, is_another_ticket, without_loan, without_idle, tested_so_far, to_test, to_next, to_try, to_try_at, to_connect, to_back_off, core_without_ticket, asked, at_moment}
use Rattle.sqlx_pool_lists.specs.PollSteps.{phase_for, lent_since, start_answer, start_marks, started, judged, tested_at, may_test_next, after_refusal, test_answer, test_marks, after_test, wait_of, try_answer_at, connect_answer, connect_marks, after_connect, may_cancel, cancel_marks, cancelled, try_lent, try_marks, after_try}
use Rattle.sqlx_pool_marks.specs.EventTable.{closes}
use Rattle.sqlx_pool_core.specs.ReturnSteps.{give_answer, give_marks, core_after_give, end_marks, detach_marks, leak_marks, released, leaked}
use Rattle.sqlx_pool_lists.specs.MaintenanceSteps.{is_reaped_at, reap_answer, reap_marks, reaped, placed, placed_back, done_marks, done_at, done, closed_idle, close_answer, close_marks, closed_from}
use Rattle.sqlx_pool_lists.specs.Balance.{tests_one, is_testing, tests_left, left_to_test, all_left_to_test, is_asked, is_ended, is_lent, ask_room, asks, ends, lents, Balance, one_if, given_back, try_room, place_room}
use Rattle.sqlx_pool_marks.proofs.ListFacts.{found_counts, length-filter_not, length-push, length_map, count_by-cons, same_number}
use Rattle.sqlx_pool_marks.proofs.Counting.{one, count-filter, count-push}
use Rattle.std.proofs.lemmas.Bool.{ltb-true}
use Rattle.sqlx_pool_lists.proofs.Counting.{count-changed, sum-changed, sum-ended, sum-push}
use Rattle.sqlx_pool_core.proofs.PollCode.{among}
use Rattle.sqlx_pool_core.proofs.Known.{loan-found}

-- ---- lengths

pub length-ended : (t : ℕ) (x : Ticket) (tickets : List Ticket) → IsAmong t x tickets → length (without_ticket t tickets) + 1 ≡ length tickets
length-ended t x tickets is =
    let e = ap length is.others ∙ length-append is.front is.back in
    let g = ap length is.all ∙ length-append is.front (x ∷ is.back) in
    omega (arith, e, g)

pub length-changed : (t : ℕ) (f : Ticket → Ticket) (tickets : List Ticket) → length (with_ticket t f tickets) ≡ length tickets
length-changed t f tickets = length_map (λ x. cond (t == x.number) (f x) x) tickets

-- ---- what a step does that leaves the tickets

-- no change
pub moves-none : {C : Type 0} (core : Core C) → Balance core core [] 0 0
moves-none core = record { tickets = refl; numbers = omega arith; held = refl; paid = omega arith }

-- The tickets stay, and the step makes marks that neither ask nor end one.
pub moves-beside : {C : Type 0} (core : Core C) (held : List OwnedConn) (idle : List (Idle C)) (leaked places conn last : ℕ) (made : List Mark) (backs room : ℕ)
    → asks made ≡ 0 → ends made ≡ 0 → length held + backs ≡ length core.held + lents made
    → 2 * length held + length idle + 3 * places + length made ≤ 2 * length core.held + length core.idle + 3 * core.places + room
    → Balance core (record core { held = held; idle = idle; leaked = leaked; places = places; next_conn = conn; last = last }) made backs room
moves-beside core held idle leaked places conn last made backs room none_asked none_ended loans fits = record {
  tickets = omega (arith, none_asked, none_ended);
  numbers = omega (arith, none_asked);
  held = loans;
  paid = omega (arith, fits);
}

-- ---- what a step does to a ticket

module _ {C : Type 0} (core : Core C) (sound : IsSound core) (k t : ℕ) (x : Ticket) (e : ticket_of k t core.tickets ≡ Some x) where
  here : IsAmong t x core.tickets
  here = among core k t x sound e

  -- it ends, and the loans become these
  pub moves-ended : (held : List OwnedConn) (conn last : ℕ) (made : List Mark) → asks made ≡ 0 → ends made ≡ 1 → length held ≡ length core.held + lents made → 2 * lents made + length made ≤ 6
      → Balance core (record core { tickets = without_ticket t core.tickets; held = held; next_conn = conn; last = last }) made 0 0
  moves-ended held conn last made none_asked one_ended loans few =
      let fewer = length-ended t x core.tickets here in
      let w = count-filter waits (is_another_ticket t) core.tickets in
      let u = count-filter is_testing (is_another_ticket t) core.tickets in
      let l = sum-ended (left_to_test core.options.idle_tries) t x core.tickets here in
      record {
        tickets = omega (arith, fewer, none_asked, one_ended);
        numbers = omega (arith, none_asked);
        held = omega (arith, loans);
        paid = omega (arith, fewer, w, u, l, loans, few);
      }

  -- it changes, and the idle connections become these
  pub moves-changed : (f : Ticket → Ticket) (idle : List (Idle C)) (last : ℕ) (made : List Mark) → asks made ≡ 0 → ends made ≡ 0 → lents made ≡ 0
      → 2 * one waits (f x) + one is_testing (f x) + 2 * left_to_test core.options.idle_tries (f x) + length idle + length made
      ≤ 2 * one waits x + one is_testing x + 2 * left_to_test core.options.idle_tries x + length core.idle
      → Balance core (record core { tickets = with_ticket t f core.tickets; idle = idle; last = last }) made 0 0
  moves-changed f idle last made none_asked none_ended none_lent fits =
      let same = length-changed t f core.tickets in
      let w = count-changed waits t x core.tickets f here in
      let u = count-changed is_testing t x core.tickets f here in
      let l = sum-changed (left_to_test core.options.idle_tries) t x core.tickets f here in
      record {
        tickets = omega (arith, same, none_asked, none_ended);
        numbers = omega (arith, none_asked);
        held = omega (arith, none_lent);
        paid = omega (arith, same, w, u, l, fits);
      }

  over : (last : ℕ) → Balance core (record (core_without_ticket t core) { last = last }) (Ended t ∷ []) 0 0
  over last = moves-ended core.held core.next_conn last (Ended t ∷ []) refl refl (omega arith) (omega arith)

  -- ---- start

  start-idle : (m : ℕ) → x.phase ≡ phase.Waiting → (idle : List (Idle C)) → core.idle ≡ idle
      → Balance core (started t m (start_answer (first_idle idle) idle) core) (start_marks t (Some phase.Waiting) (start_answer (first_idle idle) idle)) 0 0
  start-idle m is [] none =
      let f : to_try m x ≡ to_try_at m phase.Waiting x = ap (λ (p : Phase). to_try_at m p x) is in
      let w : one waits x ≡ 1 = ap (λ (p : Phase). cond {A = ℕ} (not (is_out p)) 1 0) is in
      let v : one waits (to_try m x) ≡ 0 = ap (one waits) f in
      let u : one is_testing (to_try m x) ≡ 0 = ap (one is_testing) f in
      let l : left_to_test core.options.idle_tries (to_try m x) ≡ 0 = ap (left_to_test core.options.idle_tries) f in
      moves-changed (to_try m) core.idle m (Left t ∷ []) refl refl refl (omega (arith, w, v, u, l))
  start-idle m is (i ∷ rest) first =
      let w : one waits x ≡ 1 = ap (λ (p : Phase). cond {A = ℕ} (not (is_out p)) 1 0) is in
      let long : length core.idle ≡ suc (length rest) = ap length first in
      let short : length (drop 1 core.idle) ≡ length rest = ap (λ l. length (drop 1 l)) first in
      let l : left_to_test core.options.idle_tries x ≡ core.options.idle_tries - 1 = ap (tests_left core.options.idle_tries) is in
      moves-changed (to_test m i) (drop 1 core.idle) m (Left t ∷ Taken i.lent.id ∷ []) refl refl refl (omega (arith, w, l, long, short))

  start-again : (m until : ℕ) → x.phase ≡ phase.Backoff until → Balance core (at_moment m (record core { tickets = with_ticket t (to_try m) core.tickets })) [] 0 0
  start-again m until is =
      let f : to_try m x ≡ to_connect x = ap (λ (p : Phase). to_try_at m p x) is in
      let v : one waits (to_try m x) ≡ 0 = ap (one waits) f in
      let u : one is_testing (to_try m x) ≡ 0 = ap (one is_testing) f in
      let l : left_to_test core.options.idle_tries (to_try m x) ≡ 0 = ap (left_to_test core.options.idle_tries) f in
      moves-changed (to_try m) core.idle m [] refl refl refl (omega (arith, v, u, l))

  start-waiting : (m : ℕ) → x.phase ≡ phase.Waiting → (shut late entitled used : Bool)
      → Balance core (started t m (start_answer (cond shut turned.Closed (cond late turned.TimedOut (cond entitled (cond used turned.Exhausted (first_idle core.idle)) turned.Waiting))) core.idle) core)
      (start_marks t (Some phase.Waiting) (start_answer (cond shut turned.Closed (cond late turned.TimedOut (cond entitled (cond used turned.Exhausted (first_idle core.idle)) turned.Waiting))) core.idle)) 0 0
  start-waiting m is true late entitled used = over m
  start-waiting m is false true entitled used = over m
  start-waiting m is false false false used = moves-none core
  start-waiting m is false false true true = moves-ended core.held core.next_conn m (Left t ∷ Ended t ∷ []) refl refl (omega arith) (omega arith)
  start-waiting m is false false true false = start-idle m is core.idle refl

  start-backoff : (m until : ℕ) → x.phase ≡ phase.Backoff until → (shut late early used : Bool)
      → Balance core (started t m (start_answer (cond shut turned.Closed (cond late turned.TimedOut (cond early (turned.Backoff until) (cond used turned.Exhausted turned.Connect)))) core.idle) core)
      (start_marks t (Some (phase.Backoff until)) (start_answer (cond shut turned.Closed (cond late turned.TimedOut (cond early (turned.Backoff until) (cond used turned.Exhausted turned.Connect)))) core.idle)) 0 0
  start-backoff m until is true late early used = over m
  start-backoff m until is false true early used = over m
  start-backoff m until is false false true used = moves-none core
  start-backoff m until is false false false true = over m
  start-backoff m until is false false false false = start-again m until is

  start-phase : (q : Bool) (m : ℕ) (p : Phase) → x.phase ≡ p
      → Balance core (started t m (start_answer (cond (is_at_rest p) (cond core.closed turned.Closed (cond (nat_le x.deadline m) turned.TimedOut (in_time m q core.next_conn core.idle (is_out p) (backs_off_until p)))) turned.NotHeld) core.idle) core)
      (start_marks t (Some p) (start_answer (cond (is_at_rest p) (cond core.closed turned.Closed (cond (nat_le x.deadline m) turned.TimedOut (in_time m q core.next_conn core.idle (is_out p) (backs_off_until p)))) turned.NotHeld) core.idle)) 0 0
  start-phase q m phase.Waiting is = start-waiting m is core.closed (nat_le x.deadline m) q (nat_lt (2 ^ 63) core.next_conn)
  start-phase q m (phase.Testing c created before) is = moves-none core
  start-phase q m phase.Connecting is = moves-none core
  start-phase q m (phase.Backoff until) is = start-backoff m until is core.closed (nat_le x.deadline m) (nat_lt m until) (nat_lt (2 ^ 63) core.next_conn)

  -- ---- finish_test

  test-over : (c d before : ℕ) (created : Moment) → x.phase ≡ phase.Testing d created before → Balance core (record core { tickets = with_ticket t to_connect core.tickets }) (Closed c ∷ []) 0 0
  test-over c d before created is =
      let u : one is_testing x ≡ 1 = ap (λ (p : Phase). cond {A = ℕ} (tests_one p) 1 0) is in
      moves-changed to_connect core.idle core.last (Closed c ∷ []) refl refl refl (omega (arith, u))

  test-next : (c d before : ℕ) (created : Moment) → x.phase ≡ phase.Testing d created before → (next : Bool) → nat_lt (before + 1) core.options.idle_tries ≡ next → (idle : List (Idle C)) → core.idle ≡ idle
      → Balance core (after_test k t (after_refusal next idle) core) (test_marks k t c (after_refusal next idle)) 0 0
  test-next c d before created is true may (i ∷ rest) first =
      let u : one is_testing x ≡ 1 = ap (λ (p : Phase). cond {A = ℕ} (tests_one p) 1 0) is in
      let so_far : tested_so_far x.phase ≡ before + 1 = ap tested_so_far is in
      let fewer = ltb-true (before + 1) core.options.idle_tries may in
      let l : left_to_test core.options.idle_tries x ≡ core.options.idle_tries - (before + 1) = ap (tests_left core.options.idle_tries) is in
      let long : length core.idle ≡ suc (length rest) = ap length first in
      let short : length (drop 1 core.idle) ≡ length rest = ap (λ l. length (drop 1 l)) first in
      moves-changed (to_next i) (drop 1 core.idle) core.last (Closed c ∷ Taken i.lent.id ∷ []) refl refl refl (omega (arith, u, so_far, fewer, l, long, short))
  test-next c d before created is true may [] first = test-over c d before created is
  test-next c d before created is false may [] first = test-over c d before created is
  test-next c d before created is false may (i ∷ rest) first = test-over c d before created is

  test-answer : (v : Verdict C) (d before : ℕ) (created : Moment) → x.phase ≡ phase.Testing d created before → (shut : Bool)
      → Balance core (after_test k t (test_answer (Some created) shut (nat_lt (before + 1) core.options.idle_tries) core.idle v) core) (test_marks k t (judged v) (test_answer (Some created) shut (nat_lt (before + 1) core.options.idle_tries) core.idle v)) 0 0
  test-answer (verdict.Accepted lent) d before created is true = moves-ended core.held core.next_conn core.last (Closed lent.id ∷ Ended t ∷ []) refl refl (omega arith) (omega arith)
  test-answer (verdict.Refused c) d before created is true = moves-ended core.held core.next_conn core.last (Closed c ∷ Ended t ∷ []) refl refl (omega arith) (omega arith)
  test-answer (verdict.Accepted lent) d before created is false =
      let h : OwnedConn = record { conn = lent.id; client = k; created = created } in
      let more = length-push core.held h in
      moves-ended (core.held ++ h ∷ []) core.next_conn core.last (Lent k lent.id ∷ Ended t ∷ []) refl refl (omega (arith, more)) (omega arith)
  test-answer (verdict.Refused c) d before created is false = test-next c d before created is (nat_lt (before + 1) core.options.idle_tries) refl core.idle refl

  test-at : (v : Verdict C) (d before : ℕ) (created : Moment) → x.phase ≡ phase.Testing d created before → (b : Bool)
      → Balance core (after_test k t (test_answer (cond b (Some created) None) core.closed (nat_lt (before + 1) core.options.idle_tries) core.idle v) core)
      (test_marks k t (judged v) (test_answer (cond b (Some created) None) core.closed (nat_lt (before + 1) core.options.idle_tries) core.idle v)) 0 0
  test-at v d before created is true = test-answer v d before created is core.closed
  test-at v d before created is false = moves-none core

  test-phase : (v : Verdict C) (p : Phase) → x.phase ≡ p
      → Balance core (after_test k t (test_answer (tested_at (judged v) (Some p)) core.closed (may_test_next core.options.idle_tries (Some p)) core.idle v) core)
      (test_marks k t (judged v) (test_answer (tested_at (judged v) (Some p)) core.closed (may_test_next core.options.idle_tries (Some p)) core.idle v)) 0 0
  test-phase v (phase.Testing d created before) is = test-at v d before created is (judged v == d)
  test-phase v phase.Waiting is = moves-none core
  test-phase v phase.Connecting is = moves-none core
  test-phase v (phase.Backoff until) is = moves-none core

  -- ---- finish_connect

  connect-answer : (m : ℕ) (tried : Tried C) → (shut : Bool)
      → Balance core (after_connect k t m (try_answer_at phase.Connecting x shut core.next_conn m tried) core) (connect_marks k t m (try_answer_at phase.Connecting x shut core.next_conn m tried)) 0 0
  connect-answer m tried true = over m
  connect-answer m (tried.Opened raw) false =
      let h : OwnedConn = record { conn = core.next_conn; client = k; created = record { 0 = m } } in
      let more = length-push core.held h in
      moves-ended (core.held ++ h ∷ []) (core.next_conn + 1) m (Opened core.next_conn m ∷ Lent k core.next_conn ∷ Ended t ∷ []) refl refl (omega (arith, more)) (omega arith)
  connect-answer m tried.Rejected false = moves-changed (λ y. to_back_off (wait_of y) (m + wait_of x) y) core.idle m [] refl refl refl (omega arith)
  connect-answer m tried.Transient false = moves-changed (λ y. to_back_off (wait_of y) (m + wait_of x) y) core.idle m [] refl refl refl (omega arith)
  connect-answer m tried.Fatal false = over m

  connect-phase : (m : ℕ) (tried : Tried C) (p : Phase)
      → Balance core (after_connect k t m (try_answer_at p x core.closed core.next_conn m tried) core) (connect_marks k t m (try_answer_at p x core.closed core.next_conn m tried)) 0 0
  connect-phase m tried phase.Connecting = connect-answer m tried core.closed
  connect-phase m tried phase.Waiting = moves-none core
  connect-phase m tried (phase.Testing c created before) = moves-none core
  connect-phase m tried (phase.Backoff until) = moves-none core

  -- ---- cancel

  cancel-phase : (p : Phase) → Balance core (cancelled t (may_cancel (Some p)) core) (cancel_marks t (may_cancel (Some p))) 0 0
  cancel-phase phase.Waiting = over core.last
  cancel-phase (phase.Backoff until) = over core.last
  cancel-phase phase.Connecting = moves-none core
  cancel-phase (phase.Testing c created before) = moves-none core

-- ---- whatever the look-up finds

module _ {C : Type 0} (core : Core C) (sound : IsSound core) (k t : ℕ) where
  start-found : (q : Bool) (m : ℕ) (o : Option Ticket) → ticket_of k t core.tickets ≡ o
      → Balance core (started t m (start_answer (turn_of q core.closed m core o) core.idle) core) (start_marks t (option_map (λ (x : Ticket). x.phase) o) (start_answer (turn_of q core.closed m core o) core.idle)) 0 0
  start-found q m None e = moves-none core
  start-found q m (Some x) e = start-phase core sound k t x e q m x.phase refl

  test-found : (v : Verdict C) (o : Option Ticket) → ticket_of k t core.tickets ≡ o
      → Balance core (after_test k t (test_answer (tested_at (judged v) (option_map (λ (x : Ticket). x.phase) o)) core.closed (may_test_next core.options.idle_tries (option_map (λ (x : Ticket). x.phase) o)) core.idle v) core)
      (test_marks k t (judged v) (test_answer (tested_at (judged v) (option_map (λ (x : Ticket). x.phase) o)) core.closed (may_test_next core.options.idle_tries (option_map (λ (x : Ticket). x.phase) o)) core.idle v)) 0 0
  test-found v None e = moves-none core
  test-found v (Some x) e = test-phase core sound k t x e v x.phase refl

  connect-found : (m : ℕ) (tried : Tried C) (o : Option Ticket) → ticket_of k t core.tickets ≡ o
      → Balance core (after_connect k t m (connect_answer o core.closed core.next_conn m tried) core) (connect_marks k t m (connect_answer o core.closed core.next_conn m tried)) 0 0
  connect-found m tried None e = moves-none core
  connect-found m tried (Some x) e = connect-phase core sound k t x e m tried x.phase

  cancel-found : (o : Option Ticket) → ticket_of k t core.tickets ≡ o
      → Balance core (cancelled t (may_cancel (option_map (λ (x : Ticket). x.phase) o)) core) (cancel_marks t (may_cancel (option_map (λ (x : Ticket). x.phase) o))) 0 0
  cancel-found None e = moves-none core
  cancel-found (Some x) e = cancel-phase core sound k t x e x.phase

-- ---- the other steps

module _ {C : Type 0} (core : Core C) (sound : IsSound core) where
  try-idle : (k m : ℕ) (may : Bool) (idle : List (Idle C)) → core.idle ≡ idle → Balance core (after_try k m (try_lent may idle) core) (try_marks k (try_lent may idle)) 0 (try_room (try_lent may idle))
  try-idle k m true [] is = moves-none core
  try-idle k m false [] is = moves-none core
  try-idle k m false (i ∷ rest) is = moves-none core
  try-idle k m true (i ∷ rest) is =
      let h : OwnedConn = record { conn = i.lent.id; client = k; created = i.lent.created } in
      let more = length-push core.held h in
      let long : length core.idle ≡ suc (length rest) = ap length is in
      let short : length (drop 1 core.idle) ≡ length rest = ap (λ l. length (drop 1 l)) is in
      moves-beside core (core.held ++ h ∷ []) (drop 1 core.idle) core.leaked core.places core.next_conn m (Taken i.lent.id ∷ Lent k i.lent.id ∷ []) 0 4
      refl refl (omega (arith, more)) (omega (arith, more, long, short))

  module _ (k c : ℕ) where
    fewer : (h : OwnedConn) → loan_of k c core.held ≡ Some h → length (without_loan c core.held) + 1 ≡ length core.held
    fewer h e =
        let found = loan-found core sound k c h e in
        let own = found.owned in
        let parts = length-filter_not (holds c) core.held in
        omega (arith, own, parts)

    loan-ended : (h : OwnedConn) → loan_of k c core.held ≡ Some h → (leaked last : ℕ) (made : List Mark) → asks made ≡ 0 → ends made ≡ 0 → lents made ≡ 0 → length made ≤ 2
        → Balance core (record core { held = without_loan c core.held; leaked = leaked; last = last }) made 1 0
    loan-ended h e leaked last made none_asked none_ended none_lent few =
        let less = fewer h e in
        moves-beside core (without_loan c core.held) core.idle leaked core.places core.next_conn last made 1 0 none_asked none_ended (omega (arith, less, none_lent)) (omega (arith, less, few))

    end-found : (o : Option OwnedConn) → loan_of k c core.held ≡ o → Balance core (released c (is_some o) core) (end_marks c (is_some o)) (one_if (is_some o)) 0
    end-found None e = moves-none core
    end-found (Some h) e = loan-ended h e core.leaked core.last (Closed c ∷ []) refl refl refl (omega arith)

    detach-found : (o : Option OwnedConn) → loan_of k c core.held ≡ o → Balance core (released c (is_some o) core) (detach_marks c (is_some o)) (one_if (is_some o)) 0
    detach-found None e = moves-none core
    detach-found (Some h) e = loan-ended h e core.leaked core.last (Detached c ∷ []) refl refl refl (omega arith)

    leak-found : (o : Option OwnedConn) → loan_of k c core.held ≡ o → Balance core (leaked c (is_some o) core) (leak_marks c (is_some o)) (one_if (is_some o)) 0
    leak-found None e = moves-none core
    leak-found (Some h) e = loan-ended h e (core.leaked + 1) core.last (Leaked c ∷ []) refl refl refl (omega arith)

  give-found : (k : ℕ) (lent : LentValue C) (m : ℕ) (h : OwnedConn) → loan_of k lent.id core.held ≡ Some h → (keeps : Bool)
      → Balance core (core_after_give (Some h) lent m (cond keeps given.Kept (given.Closed lent.raw)) core) (give_marks lent.id m (cond keeps given.Kept (given.Closed lent.raw))) (given_back (cond keeps given.Kept (given.Closed lent.raw))) 0
  give-found k lent m h e true =
      let less = fewer k lent.id h e in
      let i : Idle C = record { lent = lent_since h.created lent; since = record { 0 = m } } in
      let more = length-push core.idle i in
      moves-beside core (without_loan lent.id core.held) (core.idle ++ i ∷ []) core.leaked core.places core.next_conn m (Kept lent.id m ∷ []) 1 0
      refl refl (omega (arith, less)) (omega (arith, less, more))
  give-found k lent m h e false = loan-ended k lent.id h e core.leaked m (Closed lent.id ∷ []) refl refl refl (omega arith)

  give-loan : (k : ℕ) (lent : LentValue C) (m : ℕ) (accepted : Bool) (o : Option OwnedConn) → loan_of k lent.id core.held ≡ o
      → Balance core (core_after_give o lent m (give_answer core.options core.closed m accepted o lent) core) (give_marks lent.id m (give_answer core.options core.closed m accepted o lent)) (given_back (give_answer core.options core.closed m accepted o lent)) 0
  give-loan k lent m accepted None e = moves-none core
  give-loan k lent m accepted (Some h) e = give-found k lent m h e (accepted && not (closes (limits_of core.options) core.closed h.created.0 m))

  reap-found : (m : ℕ) (o : Option (Idle C)) → find (is_reaped_at core.options m) core.idle ≡ o → Balance core (reaped m o core) (reap_marks o) 0 0
  reap-found m None e = moves-none core
  reap-found m (Some i) e =
      let some = found_counts (is_reaped_at core.options m) (rests i.lent.id) core.idle i e (same_number i.lent.id) in
      let parts = length-filter_not (rests i.lent.id) core.idle in
      moves-beside core core.held (without_idle i.lent.id core.idle) core.leaked core.places core.next_conn m (Reaped i.lent.id ∷ []) 0 0 refl refl (omega arith) (omega (arith, some, parts))

  reap-may : (m : ℕ) (may : Bool) → Balance core (reaped m (reap_answer may core.options m core.idle) core) (reap_marks (reap_answer may core.options m core.idle)) 0 0
  reap-may m true = reap-found m (find (is_reaped_at core.options m) core.idle) refl
  reap-may m false = moves-none core

  place-held : (held : Bool) → Balance core (placed held core) [] 0 (place_room held)
  place-held true = moves-beside core core.held core.idle core.leaked (core.places + 1) core.next_conn core.last [] 0 3 refl refl (omega arith) (omega arith)
  place-held false = moves-none core

  done-with : (m : ℕ) (raw : Option C) → 1 ≤ core.places → (shut : Bool) → Balance core (at_moment m (placed_back (done_at shut m raw core))) (done_marks shut core.next_conn m raw) 0 0
  done-with m raw some true = moves-beside core core.held core.idle core.leaked (core.places - 1) core.next_conn m [] 0 0 refl refl (omega arith) (omega (arith, some))
  done-with m None some false = moves-beside core core.held core.idle core.leaked (core.places - 1) core.next_conn m [] 0 0 refl refl (omega arith) (omega (arith, some))
  done-with m (Some raw) some false =
      let i : Idle C = record { lent = record { id = core.next_conn; created = record { 0 = m }; raw = raw }; since = record { 0 = m } } in
      let more = length-push core.idle i in
      moves-beside core core.held (core.idle ++ i ∷ []) core.leaked (core.places - 1) (core.next_conn + 1) m
      (Opened core.next_conn m ∷ Kept core.next_conn m ∷ []) 0 0 refl refl (omega arith) (omega (arith, some, more))

-- ---- closed

closes_none : {C : Type 0} (idle : List (Idle C)) → (asks (map closed_idle idle) ≡ 0) × (ends (map closed_idle idle) ≡ 0) × (lents (map closed_idle idle) ≡ 0)
closes_none [] = (refl, refl, refl)
closes_none (i ∷ idle) =
    let rest = closes_none idle in
    (count_by-cons is_asked (closed_idle i) (map closed_idle idle) ∙ omega (arith, rest.0), count_by-cons is_ended (closed_idle i) (map closed_idle idle) ∙ omega (arith, rest.1), count_by-cons is_lent (closed_idle i) (map closed_idle idle) ∙ omega (arith, rest.2))

close-with : {C : Type 0} (core : Core C) (shut : Bool) → core.shut ≡ shut → Balance core (closed_from shut core) (close_marks shut core.idle) 0 0
close-with core true is = moves-none core
close-with core false is =
    let none = closes_none core.idle in
    let a : asks (Shut ∷ map closed_idle core.idle) ≡ 0 = count_by-cons is_asked Shut (map closed_idle core.idle) ∙ omega (arith, none.0) in
    let b : ends (Shut ∷ map closed_idle core.idle) ≡ 0 = count_by-cons is_ended Shut (map closed_idle core.idle) ∙ omega (arith, none.1) in
    let c : lents (Shut ∷ map closed_idle core.idle) ≡ 0 = count_by-cons is_lent Shut (map closed_idle core.idle) ∙ omega (arith, none.2) in
    let open_one : cond {A = ℕ} core.shut 0 1 ≡ 1 = ap (λ (b : Bool). cond {A = ℕ} b 0 1) is in
    let long = length_map closed_idle core.idle in
    record {
      tickets = omega (arith, a, b);
      numbers = omega (arith, a);
      held = omega (arith, c);
      paid = omega (arith, open_one, long);
    }

-- ---- from what a step answered and what it left

moved : {C R : Type 0} (core new : Core C) (made : R → List Mark) (becomes : R → Core C) (backs room : R → ℕ) (r answer : R) → r ≡ answer → new ≡ becomes r
    → Balance core (becomes answer) (made answer) (backs answer) (room answer) → Balance core new (made r) (backs r) (room r)
moved core new made becomes backs room r answer is left moves =
    subst (λ n. Balance core n (made r) (backs r) (room r)) (sym left) (subst (λ x. Balance core (becomes x) (made x) (backs x) (room x)) (sym is) moves)

module _ {C : Type 0} (core new : Core C) (sound : IsSound core) where
  pub start-moves : (q : Bool) (k t m : ℕ) (r : Start C) → r ≡ start_answer (turn_of q core.closed m core (ticket_of k t core.tickets)) core.idle → new ≡ started t m r core → Balance core new (start_marks t (phase_for k t core.tickets) r) 0 0
  start-moves q k t m r is left = moved core new (start_marks t (phase_for k t core.tickets)) (λ x. started t m x core) (λ x. 0) (λ x. 0) r _ is left (start-found core sound k t q m (ticket_of k t core.tickets) refl)

  pub test-moves : (k t : ℕ) (verdict : Verdict C) (r : AfterTest C) → r ≡ test_answer (tested_at (judged verdict) (phase_for k t core.tickets)) core.closed (may_test_next core.options.idle_tries (phase_for k t core.tickets)) core.idle verdict → new ≡ after_test k t r core
      → Balance core new (test_marks k t (judged verdict) r) 0 0
  test-moves k t v r is left = moved core new (test_marks k t (judged v)) (λ x. after_test k t x core) (λ x. 0) (λ x. 0) r _ is left (test-found core sound k t v (ticket_of k t core.tickets) refl)

  pub connect-moves : (k t m : ℕ) (tried : Tried C) (r : AfterConnect C) → r ≡ connect_answer (ticket_of k t core.tickets) core.closed core.next_conn m tried → new ≡ after_connect k t m r core
      → Balance core new (connect_marks k t m r) 0 0
  connect-moves k t m tried r is left = moved core new (connect_marks k t m) (λ x. after_connect k t m x core) (λ x. 0) (λ x. 0) r _ is left (connect-found core sound k t m tried (ticket_of k t core.tickets) refl)

  pub cancel-moves : (k t : ℕ) (r : Bool) → r ≡ may_cancel (phase_for k t core.tickets) → new ≡ cancelled t r core → Balance core new (cancel_marks t r) 0 0
  cancel-moves k t r is left = moved core new (cancel_marks t) (λ x. cancelled t x core) (λ x. 0) (λ x. 0) r _ is left (cancel-found core sound k t (ticket_of k t core.tickets) refl)

  pub try-moves : (passes : Bool) (k m : ℕ) (r : Option (LentValue C)) → r ≡ try_lent passes core.idle → new ≡ after_try k m r core
      → Balance core new (try_marks k r) 0 (try_room r)
  try-moves passes k m r is left = moved core new (try_marks k) (λ x. after_try k m x core) (λ x. 0) try_room r _ is left (try-idle core sound k m passes core.idle refl)

  pub give-moves : (k m : ℕ) (lent : LentValue C) (accepted : Bool) (r : Given C) → r ≡ give_answer core.options core.closed m accepted (loan_of k lent.id core.held) lent
      → new ≡ core_after_give (loan_of k lent.id core.held) lent m r core → Balance core new (give_marks lent.id m r) (given_back r) 0
  give-moves k m lent accepted r is left = moved core new (give_marks lent.id m) (λ x. core_after_give (loan_of k lent.id core.held) lent m x core) given_back (λ x. 0) r _ is left (give-loan core sound k lent m accepted (loan_of k lent.id core.held) refl)

  pub end-moves : (k c : ℕ) (r : Bool) → r ≡ is_some (loan_of k c core.held) → new ≡ released c r core → Balance core new (end_marks c r) (one_if r) 0
  end-moves k c r is left = moved core new (end_marks c) (λ x. released c x core) one_if (λ x. 0) r _ is left (end-found core sound k c (loan_of k c core.held) refl)

  pub detach-moves : (k c : ℕ) (r : Bool) → r ≡ is_some (loan_of k c core.held) → new ≡ released c r core → Balance core new (detach_marks c r) (one_if r) 0
  detach-moves k c r is left = moved core new (detach_marks c) (λ x. released c x core) one_if (λ x. 0) r _ is left (detach-found core sound k c (loan_of k c core.held) refl)

  pub leak-moves : (k c : ℕ) (r : Bool) → r ≡ is_some (loan_of k c core.held) → new ≡ leaked c r core → Balance core new (leak_marks c r) (one_if r) 0
  leak-moves k c r is left = moved core new (leak_marks c) (λ x. leaked c x core) one_if (λ x. 0) r _ is left (leak-found core sound k c (loan_of k c core.held) refl)

  pub reap-moves : (passes : Bool) (m : ℕ) (r : Option (Idle C)) → r ≡ reap_answer passes core.options m core.idle → new ≡ reaped m r core
      → Balance core new (reap_marks r) 0 0
  reap-moves passes m r is left = moved core new reap_marks (λ x. reaped m x core) (λ x. 0) (λ x. 0) r _ is left (reap-may core sound m passes)

  pub place-moves : (r : Bool) → new ≡ placed r core → Balance core new [] 0 (place_room r)
  place-moves r left = subst (λ n. Balance core n [] 0 (place_room r)) (sym left) (place-held core sound r)

  pub done-moves : (m : ℕ) (raw : Option C) → 1 ≤ core.places → new ≡ done core.closed m raw core → Balance core new (done_marks core.closed core.next_conn m raw) 0 0
  done-moves m raw some left = subst (λ n. Balance core n (done_marks core.closed core.next_conn m raw) 0 0) (sym left) (done-with core sound m raw some core.closed)

  same_marks : (shut : Bool) → close_marks shut core.idle ≡ close_marks shut (close_answer shut core.idle)
  same_marks true = refl
  same_marks false = refl

  pub close-moves : (r : List (Idle C)) → r ≡ close_answer core.shut core.idle → new ≡ closed_from core.shut core → Balance core new (close_marks core.shut r) 0 0
  close-moves r is left =
      let made = subst (λ (ms : List Mark). Balance core (closed_from core.shut core) ms 0 0) (same_marks core.shut ∙ ap (close_marks core.shut) (sym is)) (close-with core core.shut refl) in
      subst (λ n. Balance core n (close_marks core.shut r) 0 0) (sym left) made

-- an ask that made a ticket
pub ask-moves : {C : Type 0} (core new : Core C) (k deadline m : ℕ) → 1 ≤ core.options.idle_tries → new ≡ at_moment m (asked k deadline core) → Balance core new (Asked core.next_ticket k deadline ∷ []) 0 (ask_room core.options.idle_tries)
ask-moves core new k deadline m some left =
    let x : Ticket = record { number = core.next_ticket; client = k; deadline = deadline; phase = phase.Waiting; first_try = record { 0 = 0 }; last_wait = None } in
    let more = length-push core.tickets x in
    let w : count_by waits (core.tickets ++ x ∷ []) ≡ count_by waits core.tickets + 1 = count-push waits core.tickets x in
    let u : count_by is_testing (core.tickets ++ x ∷ []) ≡ count_by is_testing core.tickets + 0 = count-push is_testing core.tickets x in
    let l : all_left_to_test core.options.idle_tries (core.tickets ++ x ∷ []) ≡ all_left_to_test core.options.idle_tries core.tickets + (core.options.idle_tries - 1) = sum-push (left_to_test core.options.idle_tries) core.tickets x in
    subst (λ n. Balance core n (Asked core.next_ticket k deadline ∷ []) 0 (ask_room core.options.idle_tries)) (sym left) (record {
      tickets = omega (arith, more);
      numbers = omega arith;
      held = refl;
      paid = omega (arith, more, w, u, l, some);
    })

-- by the core before the ask
pub asking-moves : {C : Type 0} (core now : Core C) (k deadline m : ℕ) (tickets : List Ticket) → 1 ≤ core.options.idle_tries → core ≡ now
    → tickets ≡ core.tickets ++ (record { number = core.next_ticket; client = k; deadline = deadline; phase = phase.Waiting; first_try = record { 0 = 0 }; last_wait = None }) ∷ []
    → Balance now (record core { tickets = tickets; next_ticket = core.next_ticket + 1; last = m }) (Asked now.next_ticket k deadline ∷ []) 0 (ask_room now.options.idle_tries)
asking-moves {C} core now k deadline m tickets some view put =
    subst (λ (n : Core C). Balance n (record core { tickets = tickets; next_ticket = core.next_ticket + 1; last = m }) (Asked n.next_ticket k deadline ∷ []) 0 (ask_room n.options.idle_tries)) view
    (ask-moves core (record core { tickets = tickets; next_ticket = core.next_ticket + 1; last = m }) k deadline m some
    (ap (λ (l : List Ticket). record core { tickets = l; next_ticket = core.next_ticket + 1; last = m }) put))
