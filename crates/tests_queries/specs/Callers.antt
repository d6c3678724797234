-- What the callers of the tests say.
use Rattle.std.specs.Prelude.{◌≡◌, ℕ, false, List, Result}
use Rattle.sqlx_query.specs.Builder.{Appends}
use Rattle.sqlx_query.specs.Query.{Asked, handed_over}
use Rattle.sqlx_query.specs.Tuples.{behind}
use Rattle.sqlx_query_drafts.specs.declared.row_parts.RowParts.{RowParts}
use Rattle.sqlx_text.specs.declared.error.Error.{Error}
use Rattle.sqlx_text.specs.declared.error.Error.TheVariants.{RowNotFound}
use Rattle.sqlx_traits.specs.Handed.{Handed}
use Rattle.sqlx_traits.specs.StepList.{Ran, Steps, first_of, one_or, rows_of}

-- a query of the text ran that isn't to be kept, and the answer is its first row or error, or `RowNotFound` where it has neither
abbrev pub FirstOfUnkept : (S : Type 0) {A B C Q R : Type 0} → (A → B) → (C → Handed B → Steps Q R Error → C → Type 0) → List ℕ → C → C → Result R Error → Type 0
FirstOfUnkept S {A} becomes runs text before after answer = (asked : Asked S A) × (asked.text ≡ text) × (asked.kept ≡ false)
    × Ran runs before (handed_over becomes asked) after (λ list. answer ≡ one_or RowNotFound (first_of (rows_of list)))

-- a row only appends to its statement
abbrev pub RowAppends : {A L : Type 0} → (L → ℕ) → (ℕ → L → L) → (A → L) → RowParts A → RowParts A → Type 0
RowAppends count first buffered before now = Appends count first (behind buffered before) (behind buffered now)
