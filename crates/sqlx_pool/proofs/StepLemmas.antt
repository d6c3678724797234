-- The value under the lock stands after a step of its core whose marks were written behind the log.
use Rattle.std.proofs.Common.{map, ◌≡◌, ℕ, ◌+◌, ◌^◌, ◌≤◌, ◌⊎◌, inl, inr, Bool, true, false, cond, List, [], ◌∷◌, ◌++◌, length, take, drop, Option, Some, None, refl, sym, ap, ◌∙◌, subst, length-append, arith}
use Rattle.sqlx_pool_marks.specs.declared.mark.Mark.{Mark}
use Rattle.sqlx_pool_marks.specs.declared.mark.Mark.TheVariants.{Ended, Closed, Detached, Leaked, Shut}
use Rattle.sqlx_pool_lists.specs.declared.steps.Given.{Given}
use Rattle.sqlx_pool_lists.specs.declared.steps.Given.TheVariants as given
use Rattle.sqlx_pool_core.specs.Answers.{is_held, is_kept}
use Rattle.sqlx_pool_lists.specs.declared.steps.Idle.{Idle}
use Rattle.sqlx_pool_lists.specs.MaintenanceSteps.{done_marks, reap_marks, closed_idle, close_marks}
use Rattle.sqlx_pool_core.specs.ReturnSteps.{give_answer, give_marks, end_marks, detach_marks, leak_marks}
use Rattle.std.proofs.lemmas.List.{take-append-drop, take-append-le, drop-append-le}
use Rattle.std.proofs.lemmas.List.Elements.{All-nil}
use Rattle.sqlx_pool_marks.proofs.Counting.{count-append, count-cons}
use Rattle.sqlx_pool_marks.proofs.FairLaws.{fair-append}
use Rattle.sqlx_pool_lists.specs.declared.steps.AfterTest.{AfterTest}
use Rattle.sqlx_pool_lists.specs.declared.steps.AfterTest.TheVariants as tested
use Rattle.sqlx_pool_lists.specs.declared.steps.AfterConnect.{AfterConnect}
use Rattle.sqlx_pool_lists.specs.declared.steps.AfterConnect.TheVariants as connected
use Rattle.sqlx_pool_lists.specs.declared.ticket.Ticket.{Ticket}
use Rattle.sqlx_pool_lists.specs.declared.ticket.OwnedConn.{OwnedConn}
use Rattle.sqlx_pool_lists.specs.declared.steps.Lent.{Lent}
use Rattle.sqlx_pool_lists.specs.declared.steps.Tried.{Tried}
use Rattle.sqlx_pool_lists.specs.declared.steps.Tried.TheVariants as tried
use Rattle.sqlx_pool_lists.specs.declared.steps.Start.{Start}
use Rattle.sqlx_pool_lists.specs.declared.steps.Start.TheVariants as start
use Rattle.sqlx_pool_lists.specs.declared.ticket.Phase.{Phase}
use Rattle.sqlx_pool_lists.specs.declared.ticket.Phase.TheVariants as phase
use Rattle.sqlx_pool_marks.specs.FairLog.{IsFair}
use Rattle.sqlx_pool_lists.specs.declared.options.PoolOptions.{PoolOptions}
use Rattle.sqlx_pool_lists.specs.Core.{Core, asking, loan, resting}
use Rattle.sqlx_pool_lists.specs.StandsFor.{StandsFor}
use Rattle.sqlx_pool_core.specs.Logs.{Logs}
use Rattle.sqlx_pool_lists.specs.Balance.{Balance, is_lent, lents, ends, marks_due, one_if, given_back}
use Rattle.sqlx_pool_lists.specs.PollSteps.{start_marks, test_marks, connect_marks, cancel_marks, try_answer, try_answer_at, connect_answer}
use Rattle.sqlx_pool_parts.specs.Answers.{lends_tested, lends_new, is_fatal, is_ended}
use Rattle.sqlx_pool_parts.specs.Booked.{Booked}
use Rattle.sqlx_pool_parts.specs.State.{PoolState, state_of, no_start, RestFlat, IsKept}
use Rattle.sqlx_pool.proofs.LeavesLemmas.{Leaves}

-- The books behind a step that ends so many loans and makes these marks; it lends no more than it ends tickets, but where few loans were made.
pub record Books (old new : Booked) (made : List Mark) (backs : ℕ) : Type 0 where
  pub owned : new.owned + backs ≡ old.owned + lents made
  pub made_is : new.made ≡ old.made + lents made
  pub few : (lents made ≤ ends made) ⊎ (new.made ≤ 2 ^ 62)

pub stepped : {C O : Type 0} {levels : C → ℕ} {max : ℕ} {cuts : Bool} {state : PoolState C O} {capacity : ℕ} → IsKept levels max cuts state capacity
    → {new : Core C} {made : List Mark} {backs room : ℕ} → Balance state.core new made backs room → Logs state.core made new → Leaves levels state.core new
    → (connect : O) (booked : Booked) → Books state.booked booked made backs
    → (marks : List Mark) (now : ℕ) → marks ≡ state.marks ++ made → length state.marks + marks_due state.core + room ≤ now
    → IsKept levels max cuts (state_of new marks state.start connect booked) now
stepped {levels = levels} {max = max} {cuts = cuts} {state = state} kept {new} {made} {backs} {room} moves logs leaves connect booked books marks now e enough =
    let makes = logs state.marks kept.standing.stands in
    let fair : IsFair max state.marks made = subst (λ (n : ℕ). IsFair n state.marks made) kept.standing.most makes.fair in
    let counts = count-append is_lent state.marks made in
    let owned = books.owned in
    let owned_old = kept.standing.owned in
    let made_is = books.made_is in
    let made_old = kept.standing.made in
    let held = moves.held in
    let tickets = moves.tickets in
    let numbers = moves.numbers in
    let asked = kept.asked in
    let few = kept.few in
    let paid = moves.paid in
    let long = length-append state.marks made in
    let begins = kept.standing.begins in
    let behind : IsFair max (take state.start.len state.marks ++ drop state.start.len state.marks) made =
    subst (λ (l : List Mark). IsFair max l made) (sym (take-append-drop state.start.len state.marks)) fair in
    let asked_now : length new.tickets + 1 ≤ new.next_ticket = omega (arith, tickets, numbers, asked) in
    let few_now : (lents made ≤ ends made) ⊎ (booked.made ≤ 2 ^ 62) → booked.made + length new.tickets + 1 ≤ 2 ^ 62 + new.next_ticket =
    elim [ inl le ↦ omega (arith, tickets, numbers, few, made_is, le) | inr le ↦ omega (arith, asked_now, le) ] in
    subst (λ (l : List Mark). IsKept levels max cuts (state_of new l state.start connect booked) now) (sym e) (record {
      standing = record {
        stands = makes.stands;
        fair = subst (λ (l : List Mark). IsFair max l (drop state.start.len (state.marks ++ made))) (sym (take-append-le state.start.len state.marks made begins))
            (subst (IsFair max (take state.start.len state.marks)) (sym (drop-append-le state.start.len state.marks made begins))
            (fair-append max (take state.start.len state.marks) (drop state.start.len state.marks) made kept.standing.fair behind));
        begins = omega (arith, begins, long);
        uncut = kept.standing.uncut;
        most = ap (λ (o : PoolOptions). o.max_connections) leaves.options ∙ kept.standing.most;
        owned = omega (arith, owned, owned_old, held);
        made = omega (arith, made_is, made_old, counts);
        rest = leaves.rest kept.standing.rest;
      };
      asked = asked_now;
      few = few_now books.few;
      room = omega (arith, long, paid, enough);
    })

module _ {C : Type 0} where
  -- a start lends nothing
  pub start-lends : (t : ℕ) (p : Option Phase) (answer : Start C) → lents (start_marks t p answer) ≡ 0
  start-lends t p start.NotHeld = refl
  start-lends t p start.Closed = refl
  start-lends t p start.TimedOut = refl
  start-lends t p start.Waiting = refl
  start-lends t p (start.Backoff until) = refl
  start-lends t p (start.Test i) = refl
  start-lends t None start.Exhausted = refl
  start-lends t None start.Connect = refl
  start-lends t (Some phase.Waiting) start.Exhausted = refl
  start-lends t (Some phase.Waiting) start.Connect = refl
  start-lends t (Some (phase.Backoff u)) start.Exhausted = refl
  start-lends t (Some (phase.Backoff u)) start.Connect = refl
  start-lends t (Some phase.Connecting) start.Exhausted = refl
  start-lends t (Some phase.Connecting) start.Connect = refl
  start-lends t (Some (phase.Testing c created before)) start.Exhausted = refl
  start-lends t (Some (phase.Testing c created before)) start.Connect = refl

  pub test-lends : (k t c : ℕ) (answer : AfterTest C) → lents (test_marks k t c answer) ≡ one_if (lends_tested answer)
  test-lends k t c (tested.NotHeld verdict) = refl
  test-lends k t c (tested.Closed raw) = refl
  test-lends k t c (tested.Ready lent) = refl
  test-lends k t c (tested.Test i) = refl
  test-lends k t c tested.Connect = refl

  pub test-few : (k t c : ℕ) (answer : AfterTest C) → lents (test_marks k t c answer) ≤ ends (test_marks k t c answer)
  test-few k t c (tested.NotHeld verdict) = omega arith
  test-few k t c (tested.Closed raw) = omega arith
  test-few k t c (tested.Ready lent) = omega arith
  test-few k t c (tested.Test i) = omega arith
  test-few k t c tested.Connect = omega arith

  pub connect-lends : (k t m : ℕ) (answer : AfterConnect C) → lents (connect_marks k t m answer) ≡ one_if (lends_new answer)
  connect-lends k t m (connected.NotHeld tried) = refl
  connect-lends k t m (connected.Closed raw) = refl
  connect-lends k t m (connected.Ready lent) = refl
  connect-lends k t m (connected.Backoff until) = refl
  connect-lends k t m connected.Ended = refl

  pub connect-few : (k t m : ℕ) (answer : AfterConnect C) → lents (connect_marks k t m answer) ≤ ends (connect_marks k t m answer)
  connect-few k t m (connected.NotHeld tried) = omega arith
  connect-few k t m (connected.Closed raw) = omega arith
  connect-few k t m (connected.Ready lent) = omega arith
  connect-few k t m (connected.Backoff until) = omega arith
  connect-few k t m connected.Ended = omega arith

-- ---- the marks of a step that may not be made

-- books that a step leaves, which lends nothing and ends nothing
pub kept-books : (old : Booked) (made : List Mark) → lents made ≡ 0 → Books old old made 0
kept-books old made none = record { owned = omega (arith, none); made_is = omega (arith, none); few = inl (omega (arith, none)) }

pub cancel-made : (t : ℕ) (so : Bool) → cond so (Ended t ∷ []) [] ≡ cancel_marks t so
cancel-made t true = refl
cancel-made t false = refl

pub cancel-lends : (t : ℕ) (so : Bool) → lents (cancel_marks t so) ≡ 0
cancel-lends t true = refl
cancel-lends t false = refl

pub end-made : (c : ℕ) (so : Bool) → cond so (Closed c ∷ []) [] ≡ end_marks c so
end-made c true = refl
end-made c false = refl

pub end-lends : (c : ℕ) (so : Bool) → lents (end_marks c so) ≡ 0
end-lends c true = refl
end-lends c false = refl

pub detach-made : (c : ℕ) (so : Bool) → cond so (Detached c ∷ []) [] ≡ detach_marks c so
detach-made c true = refl
detach-made c false = refl

pub detach-lends : (c : ℕ) (so : Bool) → lents (detach_marks c so) ≡ 0
detach-lends c true = refl
detach-lends c false = refl

pub leak-made : (c : ℕ) (so : Bool) → cond so (Leaked c ∷ []) [] ≡ leak_marks c so
leak-made c true = refl
leak-made c false = refl

pub leak-lends : (c : ℕ) (so : Bool) → lents (leak_marks c so) ≡ 0
leak-lends c true = refl
leak-lends c false = refl

pub give-lends : {C : Type 0} (c m : ℕ) (answer : Given C) → lents (give_marks c m answer) ≡ 0
give-lends c m given.Kept = refl
give-lends c m (given.Closed raw) = refl
give-lends c m (given.NotHeld raw) = refl

pub given-back : {C : Type 0} (answer : Given C) → given_back answer ≡ one_if (is_held answer)
given-back given.Kept = refl
given-back (given.Closed raw) = refl
given-back (given.NotHeld raw) = refl

pub done-lends : {C : Type 0} (shut : Bool) (n m : ℕ) (raw : Option C) → lents (done_marks shut n m raw) ≡ 0
done-lends true n m raw = refl
done-lends false n m None = refl
done-lends false n m (Some raw) = refl

pub reap-lends : {C : Type 0} (answer : Option (Idle C)) → lents (reap_marks answer) ≡ 0
reap-lends None = refl
reap-lends (Some i) = refl

closed-lends : {C : Type 0} (idle : List (Idle C)) → lents (map closed_idle idle) ≡ 0
closed-lends [] = refl
closed-lends (i ∷ rest) = let e = count-cons is_lent (closed_idle i) (map closed_idle rest) in let k = closed-lends rest in omega (arith, e, k)

pub close-lends : {C : Type 0} (shut : Bool) (idle : List (Idle C)) → lents (close_marks shut idle) ≡ 0
close-lends true idle = refl
close-lends false idle = let e = count-cons is_lent Shut (map closed_idle idle) in let k = closed-lends idle in omega (arith, e, k)

-- a connection that isn't accepted isn't kept
pub refused-give : {C : Type 0} (options : PoolOptions) (shut : Bool) (m : ℕ) (accepted : Bool) → accepted ≡ false → (h : Option OwnedConn) (lent : Lent C)
    → is_kept (give_answer options shut m accepted h lent) ≡ false
refused-give options shut m false e None lent = refl
refused-give options shut m false e (Some h) lent = refl
refused-give options shut m true e h lent = absurd cc

-- a try that wasn't refused for good ends no ticket so
pub calm-answer : {C : Type 0} (x : Option Ticket) (shut : Bool) (n m : ℕ) (try : Tried C) → is_fatal try ≡ false → is_ended (connect_answer x shut n m try) ≡ false
calm-answer None shut n m try calm = refl
calm-answer {C} (Some x) shut n m try calm = at x.phase shut
  where
    tries : (try : Tried C) → is_fatal try ≡ false → is_ended (try_answer x n m try) ≡ false
    tries (tried.Opened raw) calm = refl
    tries tried.Rejected calm = refl
    tries tried.Transient calm = refl
    tries tried.Fatal calm = absurd cc

    at : (p : Phase) (shut : Bool) → is_ended (try_answer_at p x shut n m try) ≡ false
    at phase.Connecting true = refl
    at phase.Connecting false = tries try calm
    at phase.Waiting shut = refl
    at (phase.Backoff until) shut = refl
    at (phase.Testing c created before) shut = refl

-- ---- a new pool

nothing-mapped : {X Y : Type 0} (f : X → Y) (xs : List X) → map f xs ≡ [] → xs ≡ []
nothing-mapped f [] e = refl
nothing-mapped f (x ∷ xs) e = absurd cc

pub begun : {C O : Type 0} (levels : C → ℕ) (max : ℕ) (cuts : Bool) (core : Core C) → StandsFor core [] → core.options.max_connections ≡ max
    → (marks : List Mark) → marks ≡ [] → (connect : O) (booked : Booked) → booked ≡ record { owned = 0; made = 0 } → (capacity : ℕ) → marks_due core ≤ capacity
    → IsKept levels max cuts (state_of core marks no_start connect booked) capacity
begun {C} levels max cuts core stands most marks e connect booked empty capacity room =
    let no_ticket : core.tickets ≡ [] = nothing-mapped asking core.tickets stands.tickets in
    let no_loan : core.held ≡ [] = nothing-mapped loan core.held stands.loans in
    let no_idle : core.idle ≡ [] = nothing-mapped resting core.idle stands.idle in
    let tickets : length core.tickets ≡ 0 = ap length no_ticket in
    let held : length core.held ≡ 0 = ap length no_loan in
    let number : core.next_ticket ≡ 1 = stands.ticket_number in
    let owned : booked.owned ≡ 0 = ap (λ (b : Booked). b.owned) empty in
    let made : booked.made ≡ 0 = ap (λ (b : Booked). b.made) empty in
    subst (λ (l : List Mark). IsKept levels max cuts (state_of core l no_start connect booked) capacity) (sym e) (record {
      standing = record {
        stands = stands;
        fair = record { safe = tt; order = tt };
        begins = omega arith;
        uncut = λ never. refl;
        most = most;
        owned = owned ∙ sym held;
        made = made;
        rest = subst (RestFlat levels) (sym no_idle) (All-nil (λ i. levels i.lent.raw ≡ 0));
      };
      asked = omega (arith, tickets, number);
      few = omega (arith, tickets, number, made);
      room = omega (arith, room);
    })
