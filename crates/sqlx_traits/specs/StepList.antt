-- A step list: what a statement gives, item by item: results and rows, up to its first error.
use Rattle.std.specs.Prelude.{◌≡◌, ℕ, ◌⊎◌, ⊤, List, [], ◌∷◌, Option, Some, None, Result, Ok, Err}
use Rattle.std.specs.List.{fold}
use Rattle.either.specs.declared.Either.{Either}
use Rattle.either.specs.declared.Either.TheVariants.{Left, Right}
use Rattle.sqlx_text.specs.Errors.{error_of}
use Rattle.sqlx_text.specs.declared.error.Error.{Error}
use Rattle.sqlx_text.specs.declared.error.Error.TheVariants as error
use Rattle.sqlx_text.specs.declared.fault.Fault.{Fault}
use Rattle.sqlx_traits.specs.Faults.{FaultCause}

-- a list of results Q, rows R and errors E
abbrev pub Steps : Type 0 → Type 0 → Type 0 → Type 0
Steps Q R E = List (Result (Either Q R) E)

-- the result that follows the other items of a list, if there is one
abbrev pub result_step : {Q R E : Type 0} → Option Q → Steps Q R E
result_step None = []
result_step (Some result) = Ok (Left result) ∷ []

-- the end of a list: its error, if there is one
abbrev pub ended : {A E : Type 0} → Option E → List (Result A E)
ended None = []
ended (Some e) = Err e ∷ []

-- the results of a list, and its errors
abbrev pub results_of : {Q R E : Type 0} → Steps Q R E → List (Result Q E)
results_of [] = []
results_of (Ok (Left result) ∷ rest) = Ok result ∷ results_of rest
results_of (Ok (Right row) ∷ rest) = results_of rest
results_of (Err e ∷ rest) = Err e ∷ results_of rest

-- the rows of a list, and its errors
abbrev pub rows_of : {Q R E : Type 0} → Steps Q R E → List (Result R E)
rows_of [] = []
rows_of (Ok (Left result) ∷ rest) = rows_of rest
rows_of (Ok (Right row) ∷ rest) = Ok row ∷ rows_of rest
rows_of (Err e ∷ rest) = Err e ∷ rows_of rest

-- the values of a list, without its errors
abbrev pub values_of : {A E : Type 0} → List (Result A E) → List A
values_of [] = []
values_of (Ok x ∷ rest) = x ∷ values_of rest
values_of (Err e ∷ rest) = values_of rest

-- the first error of a list, if there is one
abbrev pub first_error : {A E : Type 0} → List (Result A E) → Option E
first_error [] = None
first_error (Ok x ∷ rest) = first_error rest
first_error (Err e ∷ rest) = Some e

-- x, or the error where there is one
abbrev pub or_error : {A E : Type 0} → A → Option E → Result A E
or_error x None = Ok x
or_error x (Some e) = Err e

-- all values, or the first error
abbrev pub all_of : {A E : Type 0} → List (Result A E) → Result (List A) E
all_of list = or_error (values_of list) (first_error list)

-- x extended by each value in order, or the first error
abbrev pub combined : {A E : Type 0} → (A → A → A) → A → List (Result A E) → Result A E
combined extended x list = or_error (fold extended x (values_of list)) (first_error list)

-- the first value or error, None where there is neither
abbrev pub first_of : {A E : Type 0} → List (Result A E) → Result (Option A) E
first_of [] = Ok None
first_of (Ok x ∷ rest) = Ok (Some x)
first_of (Err e ∷ rest) = Err e

-- the value that is there; `none` where there is neither a value nor an error
abbrev pub one_or : {A E : Type 0} → E → Result (Option A) E → Result A E
one_or none (Ok (Some x)) = Ok x
one_or none (Ok None) = Err none
one_or none (Err e) = Err e

-- a run of a query may give a list of which this holds
abbrev pub Ran : {S H L : Type 0} → (S → H → L → S → Type 0) → S → H → S → (L → Type 0) → Type 0
Ran {L = L} runs old query new answer = (list : L) × runs old query list new × answer list

-- an error of a list is a counted one, or tells why the arguments couldn't be had
abbrev pub StepCause : {A : Type 0} → ℕ → ℕ → Result A Fault → Error → Type 0
StepCause before now (Ok arguments) e = FaultCause before now e
StepCause before now (Err fault) e = (e ≡ error_of error.Encode fault) ⊎ FaultCause before now e

-- where the arguments can't be had, for this fault, nothing runs, and the answer is one of its error
abbrev pub RunsNothing : {S : Type 0} → S → S → (Error → Type 0) → Fault → Type 0
RunsNothing old new answers fault = answers (error_of error.Encode fault) × (new ≡ old)

-- each error of a list has its cause
abbrev pub StepCauses : {T A : Type 0} → ℕ → ℕ → Result A Fault → List (Result T Error) → Type 0
StepCauses before now arguments [] = ⊤
StepCauses before now arguments (Ok step ∷ rest) = StepCauses before now arguments rest
StepCauses before now arguments (Err e ∷ rest) = StepCause before now arguments e × StepCauses before now arguments rest
