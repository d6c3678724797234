-- Queries of a text with given arguments over a backend, and what running one comes to.
use Rattle.std.specs.Prelude.{◌≡◌, ◌⊎◌, ℕ, ℤ, List, [], ◌∷◌, length, Bool, true, Option, Some, Result, Ok, Err}
use Rattle.sqlx_text.specs.declared.error.Error.{Error}
use Rattle.sqlx_text.specs.declared.error.Error.TheVariants as error
use Rattle.sqlx_text.specs.declared.fault.Fault.{Fault}
use Rattle.sqlx_text.specs.declared.fault.Fault.TheVariants as fault
use Rattle.sqlx_traits.specs.StepList.{Steps, combined, results_of, rows_of, first_of, one_or}
use Rattle.sqlx_any_values.specs.Results.{no_result, with_next}
use Rattle.sqlx_any.specs.Rows.{RowParts}
use Rattle.sqlx_any_values.specs.TypedRead.{read_i64}
use Rattle.sqlx_any.specs.declared.arguments.AnyArguments.{AnyArguments}
use Rattle.sqlx_any_values.specs.declared.query_result.AnyQueryResult.{AnyQueryResult}
use Rattle.sqlx_any_values.specs.declared.value.AnyValueKind.{AnyValueKind}
use Rattle.sqlx_any_values.specs.declared.value.AnyValueKind.TheVariants.{BigInt}
use Rattle.sqlx_query.specs.Query.{Asked}

-- these values as arguments
abbrev pub arguments_of : List AnyValueKind → AnyArguments
arguments_of values = record { values = values }

-- arguments that are these values, or that memory was wanting for
abbrev pub AreValues : List AnyValueKind → Result (Option AnyArguments) Fault → Type 0
AreValues values given = (given ≡ Ok (Some (arguments_of values))) ⊎ (given ≡ Err fault.OutOfMemory)

-- a query of this text with these values, which is to be kept
pub record IsBound {S : Type 0} (text : List ℕ) (values : List AnyValueKind) (query : Asked S AnyArguments) : Type 0 where
  pub text_is : query.text ≡ text
  pub kept : query.kept ≡ true
  pub arguments : AreValues values query.arguments

-- a row of one whole number that fits 64 bits
abbrev pub IsNumber : ℤ → RowParts → Type 0
IsNumber n row = (row.values ≡ record { kind = BigInt n } ∷ []) × (length row.columns ≡ 1) × (read_i64 (BigInt n) ≡ Ok n)

-- the number of a row is read, or there is no memory
abbrev pub ReadsNumber : RowParts → Result ℤ Error → Type 0
ReadsNumber row r = (n : ℤ) → IsNumber n row → (r ≡ Ok n) ⊎ (r ≡ Err error.OutOfMemory)

-- the same of a row that is there, or the error in its place
abbrev pub ReadsRow : Result RowParts Error → Result ℤ Error → Type 0
ReadsRow (Ok row) r = ReadsNumber row r
ReadsRow (Err e) r = r ≡ Err e

module _ {B : Type 0} (runs : B → List ℕ → Bool → Option AnyArguments → Steps AnyQueryResult RowParts Error → B → Type 0) where
  -- the backend runs the text with these values, or memory is wanting
  abbrev pub Ran : B → List ℕ → List AnyValueKind → Steps AnyQueryResult RowParts Error → B → Type 0
  Ran before text values list after = runs before text true (Some (arguments_of values)) list after ⊎ ((list ≡ Err error.OutOfMemory ∷ []) × (after ≡ before))

  -- the results of the run as one
  abbrev pub Executes : B → List ℕ → List AnyValueKind → Result AnyQueryResult Error → B → Type 0
  Executes before text values result after = (list : Steps AnyQueryResult RowParts Error) × Ran before text values list after × (result ≡ combined with_next no_result (results_of list))

  -- the number in the first row of the run
  abbrev pub FindsNumber : B → List ℕ → List AnyValueKind → Result ℤ Error → B → Type 0
  FindsNumber before text values result after = (list : Steps AnyQueryResult RowParts Error) × Ran before text values list after × ReadsRow (one_or error.RowNotFound (first_of (rows_of list))) result
