-- Step lists: the errors of a filtered list are those of the list.
use Rattle.std.proofs.Common.{ℕ, List, [], ◌∷◌, ◌++◌, map, Result, Ok, Err, IfErr, ◌≡◌, append_assoc, inl, inr, rules}
use Rattle.either.specs.declared.Either.TheVariants.{Left, Right}
use Rattle.sqlx_text.specs.declared.error.Error.{Error}
use Rattle.sqlx_text.specs.declared.error.Error.TheVariants as error
use Rattle.sqlx_text.specs.declared.fault.Fault.{Fault}
use Rattle.sqlx_traits.specs.Reads.{Answers}
use Rattle.sqlx_traits.specs.StepList.{RunsNothing, Steps, StepCause, StepCauses, first_error, all_of, or_error, results_of, rows_of, values_of}

pub causes_of_rows : {Q R A : Type 0} (before now : ℕ) (arguments : Result A Fault) (list : Steps Q R Error)
    → StepCauses before now arguments list → StepCauses before now arguments (rows_of list)
causes_of_rows before now arguments [] causes = causes
causes_of_rows before now arguments (Ok (Left q) ∷ rest) causes = causes_of_rows before now arguments rest causes
causes_of_rows before now arguments (Ok (Right r) ∷ rest) causes = causes_of_rows before now arguments rest causes
causes_of_rows before now arguments (Err e ∷ rest) causes = (causes.0, causes_of_rows before now arguments rest causes.1)

pub causes_of_results : {Q R A : Type 0} (before now : ℕ) (arguments : Result A Fault) (list : Steps Q R Error)
    → StepCauses before now arguments list → StepCauses before now arguments (results_of list)
causes_of_results before now arguments [] causes = causes
causes_of_results before now arguments (Ok (Left q) ∷ rest) causes = causes_of_results before now arguments rest causes
causes_of_results before now arguments (Ok (Right r) ∷ rest) causes = causes_of_results before now arguments rest causes
causes_of_results before now arguments (Err e ∷ rest) causes = (causes.0, causes_of_results before now arguments rest causes.1)

-- the error that comes before a value made of a list has its cause
pub cause_of_first_error : {T A X : Type 0} (before now : ℕ) (arguments : Result A Fault) (list : List (Result T Error)) (made : X)
    → StepCauses before now arguments list → IfErr (or_error made (first_error list)) (λ e. StepCause before now arguments e)
cause_of_first_error before now arguments [] made causes = search rules
cause_of_first_error before now arguments (Ok y ∷ rest) made causes = cause_of_first_error before now arguments rest made causes
cause_of_first_error before now arguments (Err e ∷ rest) made causes = causes.0

pub cause_of_all : {T A : Type 0} (before now : ℕ) (arguments : Result A Fault) (list : List (Result T Error))
    → StepCauses before now arguments list → IfErr (all_of list) (λ e. StepCause before now arguments e)
cause_of_all before now arguments list causes = cause_of_first_error before now arguments list (values_of list) causes

-- want of memory needs no cause
cause_of_no_memory : {A : Type 0} (before now : ℕ) (arguments : Result A Fault) → StepCause before now arguments error.OutOfMemory
cause_of_no_memory before now (Ok arguments) = tt
cause_of_no_memory before now (Err fault) = inr tt

pub cause_of_answer : {V A X : Type 0} (before now : ℕ) (arguments : Result A Fault) (seen : V → X) (due : Result X Error) (r : Result V Error)
    → IfErr due (λ e. StepCause before now arguments e) → Answers seen error.OutOfMemory due r → IfErr r (λ e. StepCause before now arguments e)
cause_of_answer before now arguments seen due (Ok x) cause answers = tt
cause_of_answer before now arguments seen due (Err e) cause (inl same) = rw same at cause
cause_of_answer before now arguments seen due (Err e) cause (inr none) = rw none (cause_of_no_memory before now arguments)

-- items that are no errors need no cause
pub causes_of_items : {T A : Type 0} (before now : ℕ) (arguments : Result A Fault) (items : List T) (rest : List (Result T Error))
    → StepCauses before now arguments rest → StepCauses before now arguments (map Ok items ++ rest)
causes_of_items before now arguments [] rest causes = causes
causes_of_items before now arguments (x ∷ xs) rest causes = causes_of_items before now arguments xs rest causes

-- where nothing runs, an answer that is one of the error makes another one
pub unencoded_by : {S A : Type 0} (P Q : Error → Type 0) (old new : S) (arguments : Result A Fault)
    → ((e : Error) → P e → Q e) → IfErr arguments (RunsNothing old new P) → IfErr arguments (RunsNothing old new Q)
unencoded_by P Q old new (Ok a) makes nothing = tt
unencoded_by P Q old new (Err fault) makes nothing = (makes _ nothing.0, nothing.1)

-- the first value of the rest stands behind those that were taken
pub all_of_more : {A E : Type 0} (items more : List A) (x : A) (list rest : List (Result A E)) (all : Result (List A) E)
    → list ≡ Ok x ∷ rest → more ≡ items ++ x ∷ [] → or_error (items ++ values_of list) (first_error list) ≡ all
    → or_error (more ++ values_of rest) (first_error rest) ≡ all
all_of_more items more x list rest all is pushed so_far = rw (pushed, append_assoc items (x ∷ []) (values_of rest)) (rw is at so_far)
