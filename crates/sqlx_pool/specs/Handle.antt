-- What a call of a pool as an executor came to.
use Rattle.std.specs.Prelude.{◌≡◌, ℕ, Bool, true, false, if◌then◌else◌, Result, IfOk, IfErr}
use Rattle.sqlx_text.specs.declared.error.Error.{Error}
use Rattle.sqlx_text.specs.declared.error.Error.TheVariants as error
use Rattle.sqlx_text.specs.declared.io_fault.IoFault.TheVariants.{Other}
use Rattle.sqlx_pool_parts.specs.Booked.{Tallied, CountsIf}
use Rattle.sqlx_pool.specs.Refusals.{IsPollRefusal}

-- one of the errors that no driver's executor may answer: the two of a begin, and that of arguments which can't be had
abbrev pub is_of_no_driver : Error → Bool
is_of_no_driver error.InvalidSavePointStatement = true
is_of_no_driver error.BeginFailed = true
is_of_no_driver (error.Encode fault) = true
is_of_no_driver other = false

-- an error of the lending, as an executor tells it: for one of these, which a connect may answer, the database wasn't reached
abbrev pub told : Error → Error
told e = if is_of_no_driver e then error.Io Other else e

-- no connection was lent, for a cause of the pool or of a connect: no loan was counted, and the answer is one of its error
abbrev pub WasRefused : ℕ → ℕ → Tallied → Tallied → (Error → Type 0) → Type 0
WasRefused faults faults_now old new answers = (e : Error) × IsPollRefusal faults faults_now e × (new ≡ old) × answers (told e)

-- a connection without an open level was lent, one loan was counted, and the connection did this; an error has a cause by its own count of faults
abbrev pub WorkedOn : {C : Type 0} → (C → ℕ) → (C → ℕ) → Tallied → Tallied → (C → C → Type 0) → (ℕ → ℕ → Type 0) → Type 0
WorkedOn {C = C} levels faults old new did causes = (first : C) × (last : C) × (levels first ≡ 0) × CountsIf true old new × did first last × causes (faults first) (faults last)

-- a connection without an open level comes, or a refusal of the lending
abbrev pub Lends : {C P : Type 0} → (C → ℕ) → (P → C) → ℕ → Result P Error → Type 0
Lends levels raw faults result = IfOk result (λ lent. levels (raw lent) ≡ 0) × IfErr result (λ e. (faults_now : ℕ) × IsPollRefusal faults faults_now e)
