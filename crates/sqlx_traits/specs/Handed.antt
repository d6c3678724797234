-- What a query hands to an executor.
use Rattle.std.specs.Prelude.{List, ℕ, Bool, Option, Result}
use Rattle.sqlx_text.specs.declared.fault.Fault.{Fault}

-- a text, its arguments or why they can't be had, and whether the statement is to be kept
pub record Handed (A : Type 0) : Type 0 where
  pub text : List ℕ
  pub arguments : Result (Option A) Fault
  pub persistent : Bool

-- what a query hands over, by what its type says of a text, arguments and keeping
abbrev pub handed : {Q A : Type 0} → (Q → List ℕ) → (Q → Result (Option A) Fault) → (Q → Bool) → Q → Handed A
handed text arguments kept query = record { text = text query; arguments = arguments query; persistent = kept query }
