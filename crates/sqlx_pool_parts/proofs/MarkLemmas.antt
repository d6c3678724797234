-- The marks of a start and of a place that is used, as they are written: by whether the ticket waited, and by the numbers that were looked up.
use Rattle.std.proofs.Common.{◌≡◌, ℕ, Bool, true, false, not, ◌&&◌, cond, [], ◌∷◌, Option, Some, None, is_some, refl, sym, subst}
use Rattle.sqlx_pool_marks.specs.declared.mark.Mark.TheVariants.{Opened, Kept}
use Rattle.sqlx_pool_lists.specs.declared.steps.Start.{Start}
use Rattle.sqlx_pool_lists.specs.declared.steps.Start.TheVariants as start
use Rattle.sqlx_pool_lists.specs.declared.ticket.Phase.{Phase}
use Rattle.sqlx_pool_lists.specs.declared.ticket.Phase.TheVariants as phase
use Rattle.sqlx_pool_lists.specs.PollSteps.{is_in_line, start_marks}
use Rattle.sqlx_pool_lists.specs.MaintenanceSteps.{done_marks}

-- the marks of a start look at the ticket's phase only for whether it waits
pub start-waited : {C : Type 0} (t : ℕ) (p : Option Phase) (answer : Start C) (waited : Bool) → waited ≡ is_in_line p
    → start_marks t (cond waited (Some phase.Waiting) None) answer ≡ start_marks t p answer
start-waited t p answer waited e = subst (λ (b : Bool). start_marks t (cond b (Some phase.Waiting) None) answer ≡ start_marks t p answer) (sym e) (by p answer)
  where
    by : {C : Type 0} (p : Option Phase) (answer : Start C) → start_marks t (cond (is_in_line p) (Some phase.Waiting) None) answer ≡ start_marks t p answer
    by (Some phase.Waiting) answer = refl
    by p start.NotHeld = refl
    by p start.Closed = refl
    by p start.TimedOut = refl
    by p start.Waiting = refl
    by p (start.Backoff until) = refl
    by p (start.Test i) = refl
    by None start.Exhausted = refl
    by None start.Connect = refl
    by (Some (phase.Backoff u)) start.Exhausted = refl
    by (Some (phase.Backoff u)) start.Connect = refl
    by (Some phase.Connecting) start.Exhausted = refl
    by (Some phase.Connecting) start.Connect = refl
    by (Some (phase.Testing c created before)) start.Exhausted = refl
    by (Some (phase.Testing c created before)) start.Connect = refl

-- a connection for the minimum, opened or not, by the numbers and the moment that its marks tell
pub done-made : {C : Type 0} (shut : Bool) (raw : Option C) (opens : Bool) → opens ≡ (not shut && is_some raw) → (n c : ℕ) → n ≡ c → (m moment : ℕ) → m ≡ moment
    → cond opens (Opened n m ∷ Kept n m ∷ []) [] ≡ done_marks shut c moment raw
done-made {C} shut raw opens e n c same m moment then =
    subst (λ (b : Bool). cond b (Opened n m ∷ Kept n m ∷ []) [] ≡ done_marks shut c moment raw) (sym e)
    (subst (λ (k : ℕ). cond (not shut && is_some raw) (Opened n m ∷ Kept n m ∷ []) [] ≡ done_marks shut k moment raw) same
    (subst (λ (k : ℕ). cond (not shut && is_some raw) (Opened n m ∷ Kept n m ∷ []) [] ≡ done_marks shut n k raw) then (by shut raw)))
  where
    by : (shut : Bool) (raw : Option C) → cond (not shut && is_some raw) (Opened n m ∷ Kept n m ∷ []) [] ≡ done_marks shut n m raw
    by true raw = refl
    by false None = refl
    by false (Some raw) = refl
