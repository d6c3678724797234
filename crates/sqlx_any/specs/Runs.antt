-- What a connection over a backend gives for a query.
use Rattle.std.specs.Prelude.{◌≡◌, ◌⊎◌, ℕ, List, [], ◌∷◌, Bool, Option, Result, Ok, Err}
use Rattle.sqlx_text.specs.Errors.{error_of}
use Rattle.sqlx_text.specs.declared.error.Error.{Error}
use Rattle.sqlx_text.specs.declared.error.Error.TheVariants as error
use Rattle.sqlx_text.specs.declared.fault.Fault.{Fault}
use Rattle.sqlx_traits.specs.Handed.{Handed}
use Rattle.sqlx_traits.specs.StepList.{Steps}

-- of a backend, `runs` says what a text with arguments may give
module _ {S A Q R : Type 0} (runs : S → List ℕ → Bool → Option A → Steps Q R Error → S → Type 0) where
  -- nothing runs, and the one item is the error
  abbrev pub OnlyRefuses : S → Error → Steps Q R Error → S → Type 0
  OnlyRefuses before e list after = (list ≡ Err e ∷ []) × (after ≡ before)

  -- the backend runs the text with its arguments; where these can't be had it isn't called, and the one item tells why
  abbrev pub RunsArguments : S → List ℕ → Bool → Result (Option A) Fault → Steps Q R Error → S → Type 0
  RunsArguments before text kept (Ok arguments) list after = runs before text kept arguments list after
  RunsArguments before text kept (Err fault) list after = OnlyRefuses before (error_of error.Encode fault) list after

  -- the same of a query that is handed over, or there is no memory for its text
  abbrev pub RunsOver : S → Handed A → Steps Q R Error → S → Type 0
  RunsOver before query list after = RunsArguments before query.text query.persistent query.arguments list after ⊎ OnlyRefuses before error.OutOfMemory list after
