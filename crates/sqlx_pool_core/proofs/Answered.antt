-- What each step makes, from what it answered and what it left.
use Rattle.std.proofs.Common.{◌≡◌, ℕ, ◌<◌, ◌≤◌, Bool, true, false, List, [], Option, is_some, refl, sym, subst}
use Rattle.sqlx_pool_marks.specs.declared.mark.Mark.{Mark}
use Rattle.sqlx_pool_lists.specs.declared.steps.Idle.{Idle}
use Rattle.sqlx_pool_lists.specs.declared.steps.Lent.{Lent as LentValue}
use Rattle.sqlx_pool_lists.specs.declared.steps.Start.{Start}
use Rattle.sqlx_pool_lists.specs.declared.steps.Verdict.{Verdict}
use Rattle.sqlx_pool_lists.specs.declared.steps.AfterTest.{AfterTest}
use Rattle.sqlx_pool_lists.specs.declared.steps.Tried.{Tried}
use Rattle.sqlx_pool_lists.specs.declared.steps.AfterConnect.{AfterConnect}
use Rattle.sqlx_pool_lists.specs.declared.steps.Given.{Given}
use Rattle.sqlx_pool_lists.specs.Core.{Core, ticket_of, loan_of, free}
use Rattle.sqlx_pool_lists.specs.Sound.{IsSound}
use Rattle.sqlx_pool_lists.specs.StandsFor.{StandsIn}
use Rattle.sqlx_pool_lists.specs.CoreTurn.{turn_of, InOwnLine, PastOwnLine}
use Rattle.sqlx_pool_lists.specs.PollSteps.{phase_for, start_answer, start_marks, started, judged, tested_at, may_test_next, test_answer, test_marks, after_test, connect_answer, connect_marks, after_connect, may_cancel, cancel_marks, cancelled, try_lent, try_marks, after_try}
use Rattle.sqlx_pool_core.specs.ReturnSteps.{give_answer, give_marks, core_after_give, end_marks, detach_marks, leak_marks, released, leaked}
use Rattle.sqlx_pool_lists.specs.MaintenanceSteps.{reap_answer, reap_marks, reaped, placed, done_marks, done, close_answer, close_marks, closed_from}
use Rattle.sqlx_pool_lists.specs.Makes.{MakesIn, MakesWhere}
use Rattle.sqlx_pool_core.proofs.StartMakes.{makes-start}
use Rattle.sqlx_pool_core.proofs.PollMakes.{makes-tested, makes-tried, makes-cancelled, makes-try}
use Rattle.sqlx_pool_core.proofs.ReturnMakes.{makes-give, makes-end, makes-detach, makes-leak}
use Rattle.sqlx_pool_core.proofs.MaintenanceMakes.{makes-reap, makes-placed, makes-done, makes-close}

-- an answer, and the core that it left
answered : {C R W : Type 0} (max : ℕ) (marks : List Mark) (made : R → List Mark) (becomes : R → Core C) (r answer : R) (new : Core C) → r ≡ answer → new ≡ becomes r
    → MakesWhere W max marks (made answer) (becomes answer) → MakesWhere W max marks (made r) new
answered {C} {R} {W} max marks made becomes r answer new is left makes =
    subst (λ n. MakesWhere W max marks (made r) n) (sym left) (subst (λ x. MakesWhere W max marks (made x) (becomes x)) (sym is) makes)

module _ {C : Type 0} (core new : Core C) (marks : List Mark) (sound : IsSound core) (s : StandsIn core marks) where
  pub start-answered : (q : Bool) → (q ≡ true → 0 < free core) → (k t m : ℕ) (r : Start C) → r ≡ start_answer (turn_of q core.closed m core (ticket_of k t core.tickets)) core.idle → new ≡ started t m r core
      → MakesWhere (InOwnLine core marks t q) core.options.max_connections marks (start_marks t (phase_for k t core.tickets) r) new
  start-answered q permit k t m r is left = answered core.options.max_connections marks (start_marks t (phase_for k t core.tickets)) (λ x. started t m x core) r _ new is left (makes-start core marks sound s q permit k t m)

  pub test-answered : (k t : ℕ) (verdict : Verdict C) (r : AfterTest C) → r ≡ test_answer (tested_at (judged verdict) (phase_for k t core.tickets)) core.closed (may_test_next core.options.idle_tries (phase_for k t core.tickets)) core.idle verdict → new ≡ after_test k t r core
      → MakesIn core.options.max_connections marks (test_marks k t (judged verdict) r) new
  test-answered k t v r is left = answered core.options.max_connections marks (test_marks k t (judged v)) (λ x. after_test k t x core) r _ new is left (makes-tested core marks sound s k t (may_test_next core.options.idle_tries (phase_for k t core.tickets)) v)

  pub connect-answered : (k t m : ℕ) (tried : Tried C) (r : AfterConnect C) → r ≡ connect_answer (ticket_of k t core.tickets) core.closed core.next_conn m tried → new ≡ after_connect k t m r core
      → MakesIn core.options.max_connections marks (connect_marks k t m r) new
  connect-answered k t m tried r is left = answered core.options.max_connections marks (connect_marks k t m) (λ x. after_connect k t m x core) r _ new is left (makes-tried core marks sound s k t m tried)

  pub cancel-answered : (k t : ℕ) (r : Bool) → r ≡ may_cancel (phase_for k t core.tickets) → new ≡ cancelled t r core → MakesIn core.options.max_connections marks (cancel_marks t r) new
  cancel-answered k t r is left = answered core.options.max_connections marks (cancel_marks t) (λ x. cancelled t x core) r _ new is left (makes-cancelled core marks sound s k t)

  pub try-answered : (passes : Bool) → (passes ≡ true → core.closed ≡ false) → (k m : ℕ) (r : Option (LentValue C)) → r ≡ try_lent passes core.idle → new ≡ after_try k m r core
      → MakesWhere (PastOwnLine core passes) core.options.max_connections marks (try_marks k r) new
  try-answered passes open_yet k m r is left = answered core.options.max_connections marks (try_marks k) (λ x. after_try k m x core) r _ new is left (makes-try core marks sound s k m passes open_yet)

  pub give-answered : (k m : ℕ) (lent : LentValue C) (accepted : Bool) (r : Given C) → r ≡ give_answer core.options core.closed m accepted (loan_of k lent.id core.held) lent
      → new ≡ core_after_give (loan_of k lent.id core.held) lent m r core → MakesIn core.options.max_connections marks (give_marks lent.id m r) new
  give-answered k m lent accepted r is left =
      answered core.options.max_connections marks (give_marks lent.id m) (λ x. core_after_give (loan_of k lent.id core.held) lent m x core) r _ new is left (makes-give core marks sound s k lent m accepted)

  pub end-answered : (k c : ℕ) (r : Bool) → r ≡ is_some (loan_of k c core.held) → new ≡ released c r core → MakesIn core.options.max_connections marks (end_marks c r) new
  end-answered k c r is left = answered core.options.max_connections marks (end_marks c) (λ x. released c x core) r _ new is left (makes-end core marks sound s k c)

  pub detach-answered : (k c : ℕ) (r : Bool) → r ≡ is_some (loan_of k c core.held) → new ≡ released c r core → MakesIn core.options.max_connections marks (detach_marks c r) new
  detach-answered k c r is left = answered core.options.max_connections marks (detach_marks c) (λ x. released c x core) r _ new is left (makes-detach core marks sound s k c)

  pub leak-answered : (k c : ℕ) (r : Bool) → r ≡ is_some (loan_of k c core.held) → new ≡ leaked c r core → MakesIn core.options.max_connections marks (leak_marks c r) new
  leak-answered k c r is left = answered core.options.max_connections marks (leak_marks c) (λ x. leaked c x core) r _ new is left (makes-leak core marks sound s k c)

  pub reap-answered : (passes : Bool) → (passes ≡ true → core.closed ≡ false) → (m : ℕ) (r : Option (Idle C)) → r ≡ reap_answer passes core.options m core.idle → new ≡ reaped m r core
      → MakesIn core.options.max_connections marks (reap_marks r) new
  reap-answered passes open_yet m r is left = answered core.options.max_connections marks reap_marks (λ x. reaped m x core) r _ new is left (makes-reap core marks sound s m passes open_yet)

  pub place-answered : (r : Bool) → new ≡ placed r core → MakesIn core.options.max_connections marks [] new
  place-answered r left = subst (MakesIn core.options.max_connections marks []) (sym left) (makes-placed core marks sound s r)

  pub done-answered : (m : ℕ) (raw : Option C) → 1 ≤ core.places → new ≡ done core.closed m raw core → MakesIn core.options.max_connections marks (done_marks core.closed core.next_conn m raw) new
  done-answered m raw placed left = subst (MakesIn core.options.max_connections marks (done_marks core.closed core.next_conn m raw)) (sym left) (makes-done core marks sound s m raw placed)

  same_marks : (shut : Bool) → close_marks shut core.idle ≡ close_marks shut (close_answer shut core.idle)
  same_marks true = refl
  same_marks false = refl

  pub close-answered : (r : List (Idle C)) → r ≡ close_answer core.shut core.idle → new ≡ closed_from core.shut core → MakesIn core.options.max_connections marks (close_marks core.shut r) new
  close-answered r is left =
      let made : MakesIn core.options.max_connections marks (close_marks core.shut (close_answer core.shut core.idle)) (closed_from core.shut core)
      = subst (λ (ms : List Mark). MakesIn core.options.max_connections marks ms (closed_from core.shut core)) (same_marks core.shut) (makes-close core marks sound s) in
      subst (λ n. MakesIn core.options.max_connections marks (close_marks core.shut r) n) (sym left) (subst (λ (x : List (Idle C)). MakesIn core.options.max_connections marks (close_marks core.shut x) (closed_from core.shut core)) (sym is) made)
