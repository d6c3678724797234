-- A call that was counted may be refused, as an executor's.
use Rattle.std.proofs.Common.{◌≡◌, ◌⊎◌, ℕ, List, [], ◌∷◌, Option, Result, Ok, Err, IfErr, IfOk, inl, inr}
use Rattle.sqlx_text.specs.declared.error.Error.{Error}
use Rattle.sqlx_text.specs.declared.error.Error.TheVariants as error
use Rattle.sqlx_text.specs.declared.fault.Fault.{Fault}
use Rattle.sqlx_pool_core.specs.Outside.{HasRisen}
use Rattle.sqlx_traits.specs.Faults.{FaultCause}
use Rattle.sqlx_traits.specs.StepList.{StepCause, StepCauses}
use Rattle.sqlx_traits.specs.Handed.{Handed}
use Rattle.sqlx_pool_parts.specs.Booked.{Tallied}
use Rattle.sqlx_pool.specs.Handle.{told, WasRefused, WorkedOn}

-- a cause by one count is a cause by another that has risen
pub cause_counted : (a b before now : ℕ) (e : Error) → HasRisen before now → FaultCause a b e → FaultCause before now e
cause_counted a b before now (error.Configuration _) rose cause = rose
cause_counted a b before now (error.InvalidArgument _) rose cause = rose
cause_counted a b before now (error.Database _) rose cause = rose
cause_counted a b before now (error.Io _) rose cause = rose
cause_counted a b before now (error.Protocol _) rose cause = rose
cause_counted a b before now error.RowNotFound rose cause = rose
cause_counted a b before now (error.TypeNotFound _) rose cause = rose
cause_counted a b before now (error.ColumnIndexOutOfBounds _ _) rose cause = rose
cause_counted a b before now (error.ColumnNotFound _) rose cause = rose
cause_counted a b before now (error.ColumnDecode _ _) rose cause = rose
cause_counted a b before now (error.Encode _) rose cause = cause
cause_counted a b before now (error.Decode _) rose cause = rose
cause_counted a b before now (error.AnyDriverError _) rose cause = rose
cause_counted a b before now error.PoolTimedOut rose cause = rose
cause_counted a b before now error.PoolClosed rose cause = rose
cause_counted a b before now error.InvalidSavePointStatement rose cause = cause
cause_counted a b before now error.BeginFailed rose cause = cause
cause_counted a b before now error.OutOfMemory rose cause = tt
cause_counted a b before now error.Exhausted rose cause = rose
cause_counted a b before now error.NotHeld rose cause = rose

-- what an executor tells of a refusal has a cause
pub told_fault : (before now : ℕ) (e : Error) → HasRisen before now → FaultCause before now (told e)
told_fault before now (error.Configuration _) rose = rose
told_fault before now (error.InvalidArgument _) rose = rose
told_fault before now (error.Database _) rose = rose
told_fault before now (error.Io _) rose = rose
told_fault before now (error.Protocol _) rose = rose
told_fault before now error.RowNotFound rose = rose
told_fault before now (error.TypeNotFound _) rose = rose
told_fault before now (error.ColumnIndexOutOfBounds _ _) rose = rose
told_fault before now (error.ColumnNotFound _) rose = rose
told_fault before now (error.ColumnDecode _ _) rose = rose
told_fault before now (error.Encode _) rose = rose
told_fault before now (error.Decode _) rose = rose
told_fault before now (error.AnyDriverError _) rose = rose
told_fault before now error.PoolTimedOut rose = rose
told_fault before now error.PoolClosed rose = rose
told_fault before now error.InvalidSavePointStatement rose = rose
told_fault before now error.BeginFailed rose = rose
told_fault before now error.OutOfMemory rose = tt
told_fault before now error.Exhausted rose = rose
told_fault before now error.NotHeld rose = rose

-- so as the error of a step list
pub told_step : {A : Type 0} (before now : ℕ) (arguments : Result A Fault) (e : Error) → HasRisen before now → StepCause before now arguments (told e)
told_step before now (Ok arguments) e rose = told_fault before now e rose
told_step before now (Err fault) e rose = inr (told_fault before now e rose)

step_counted : {A : Type 0} (a b before now : ℕ) (arguments : Result A Fault) (e : Error) → HasRisen before now
    → StepCause a b arguments e → StepCause before now arguments e
step_counted a b before now (Ok arguments) e rose cause = cause_counted a b before now e rose cause
step_counted a b before now (Err fault) e rose (inl is) = inl is
step_counted a b before now (Err fault) e rose (inr cause) = inr (cause_counted a b before now e rose cause)

-- so for each error of a list
pub causes_counted : {T A : Type 0} (a b before now : ℕ) (arguments : Result A Fault) (list : List (Result T Error)) → HasRisen before now
    → StepCauses a b arguments list → StepCauses before now arguments list
causes_counted a b before now arguments [] rose causes = tt
causes_counted a b before now arguments (Ok step ∷ rest) rose causes = causes_counted a b before now arguments rest rose causes
causes_counted a b before now arguments (Err e ∷ rest) rose causes = (step_counted a b before now arguments e rose causes.0, causes_counted a b before now arguments rest rose causes.1)

-- so for the error of an answer
pub errs_counted : {T : Type 0} (a b before now : ℕ) (answer : Result T Error) → HasRisen before now
    → IfErr answer (FaultCause a b) → IfErr answer (FaultCause before now)
errs_counted a b before now (Ok x) rose cause = tt
errs_counted a b before now (Err e) rose cause = cause_counted a b before now e rose cause

-- where an answer is Ok, X is all that is asked
taken_if : {A : Type 0} (answer : Result A Fault) (N : Fault → Type 0) (X : Type 0) (a : A) → answer ≡ Ok a → X → IfErr answer N × IfOk answer (λ _. X)
taken_if answer N X a has x = rw (has) (tt, x)

-- what ran for a query whose arguments were taken ran for the query itself
pub taken_ran : {A C T : Type 0} (runs : C → Handed A → List (Result T Error) → C → Type 0) (levels faults : C → ℕ) (f f1 : ℕ) (old new : Tallied)
    (list : List (Result T Error)) (N : Fault → Type 0) (query taken : Handed A) (a : Option A)
    → taken ≡ query → query.arguments ≡ Ok a
    → WasRefused f f1 old new (λ e. list ≡ Err e ∷ []) ⊎ WorkedOn levels faults old new (λ first last. runs first taken list last) (λ before now. StepCauses before now taken.arguments list)
    → IfErr query.arguments N × IfOk query.arguments (λ _. WasRefused f f1 old new (λ e. list ≡ Err e ∷ [])
    ⊎ WorkedOn levels faults old new (λ first last. runs first query list last) (λ before now. StepCauses before now query.arguments list))
taken_ran runs levels faults f f1 old new list N query taken a same has ran = taken_if query.arguments N _ a has (rw (← same) ran)
