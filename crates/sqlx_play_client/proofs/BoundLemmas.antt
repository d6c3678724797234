-- Queries with numbers as arguments, step by step, and what running one comes to.
use Rattle.std.proofs.Common.{◌≡◌, inl, inr, ℕ, ℤ, List, [], ◌∷◌, ◌++◌, length, Bool, true, Option, Some, None, Result, Ok, Err, refl, sym, ap, subst}
use Rattle.sqlx_text.specs.declared.error.Error.{Error}
use Rattle.sqlx_text.specs.declared.fault.Fault.{Fault}
use Rattle.sqlx_traits.specs.Arguments.{IsWantOfMemory}
use Rattle.sqlx_traits.specs.StepList.{Steps}
use Rattle.sqlx_any.specs.Rows.{RowParts}
use Rattle.sqlx_any.specs.Runs.{RunsArguments, RunsOver}
use Rattle.sqlx_any.specs.declared.arguments.AnyArguments.{AnyArguments}
use Rattle.sqlx_any_values.specs.declared.query_result.AnyQueryResult.{AnyQueryResult}
use Rattle.sqlx_any_values.specs.declared.value.AnyValueKind.{AnyValueKind}
use Rattle.sqlx_any_values.specs.declared.value.AnyValueKind.TheVariants.{BigInt}
use Rattle.sqlx_query.specs.Binding.{AddsOrFails, Binds}
use Rattle.sqlx_query.specs.Query.{Asked, BeginsEmpty, handed_over, turned}
use Rattle.sqlx_play_client.specs.Bound.{AreValues, IsBound, Ran, arguments_of}

empty_values : (values : List AnyValueKind) → length values ≡ 0 → values ≡ []
empty_values [] none = refl
empty_values (value ∷ values) none = absurd cc

pub begins_bound : {S : Type 0} (text : List ℕ) (query : Asked S AnyArguments) → BeginsEmpty (λ arguments. length arguments.values) text None query → IsBound text [] query
begins_bound text query begins =
    subst (IsBound text []) (sym begins.2) (record { text_is = refl; kept = refl; arguments = inl (ap (λ values. Ok (Some (arguments_of values))) (empty_values begins.0.values begins.1)) })

abbrev pub with_number : ℤ → List AnyValueKind → List AnyValueKind
with_number n list = list ++ BigInt n ∷ []

added : (values : List AnyValueKind) (n : ℤ) (first : ℕ → List AnyValueKind → List AnyValueKind) (now : Result (Option AnyArguments) Fault)
    → AddsOrFails length first (λ arguments. arguments.values) (with_number n) IsWantOfMemory (arguments_of values) now → AreValues (with_number n values) now
added values n first (Ok (Some now)) adds = inl (ap (λ values. Ok (Some (arguments_of values))) adds.0)
added values n first (Ok None) never = absurd never
added values n first (Err f) (inl told) = absurd (told.3 told.2)
added values n first (Err f) (inr wants) = inr (ap Err wants)

pub one_more : (values : List AnyValueKind) (n : ℤ) (first : ℕ → List AnyValueKind → List AnyValueKind) (before now : Result (Option AnyArguments) Fault)
    → AreValues values before → Binds length first (λ arguments. arguments.values) (with_number n) IsWantOfMemory before now → AreValues (with_number n values) now
one_more values n first before now (inl is) binds = added values n first now (subst (λ b. Binds length first (λ arguments. arguments.values) (with_number n) IsWantOfMemory b now) is binds)
one_more values n first before now (inr is) binds = inr (subst (λ b. Binds length first (λ arguments. arguments.values) (with_number n) IsWantOfMemory b now) is binds)

module _ {B : Type 0} (runs : B → List ℕ → Bool → Option AnyArguments → Steps AnyQueryResult RowParts Error → B → Type 0) where
  ran_arguments : (before : B) (text : List ℕ) (values : List AnyValueKind) (given : Result (Option AnyArguments) Fault) (list : Steps AnyQueryResult RowParts Error) (after : B)
      → AreValues values given → RunsArguments runs before text true (turned (λ arguments. arguments) given) list after → Ran runs before text values list after
  ran_arguments before text values given list after (inl is) ran = inl (subst (λ g. RunsArguments runs before text true (turned (λ arguments. arguments) g) list after) is ran)
  ran_arguments before text values given list after (inr is) ran = inr (subst (λ g. RunsArguments runs before text true (turned (λ arguments. arguments) g) list after) is ran)

  pub ran_bound : {S : Type 0} (before : B) (text : List ℕ) (values : List AnyValueKind) (query : Asked S AnyArguments) (list : Steps AnyQueryResult RowParts Error) (after : B)
      → IsBound text values query → RunsOver runs before (handed_over (λ arguments. arguments) query) list after → Ran runs before text values list after
  ran_bound before text values query list after bound (inl ran) =
      ran_arguments before text values query.arguments list after bound.arguments
      (subst (λ t. RunsArguments runs before t true (turned (λ arguments. arguments) query.arguments) list after) bound.text_is
      (subst (λ k. RunsArguments runs before query.text k (turned (λ arguments. arguments) query.arguments) list after) bound.kept ran))
  ran_bound before text values query list after bound (inr lacks) = inr lacks
