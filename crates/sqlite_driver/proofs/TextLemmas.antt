-- Texts of levels that ran.
use Rattle.std.proofs.Common.{◌≡◌, ◌≤◌, ℕ, true, false, arith, List, Result, Ok, Err, IfOk, IfErr, IsOkAnd, OnErr, OnOk, inl, inr, sym, subst, ◌∙◌}
use Rattle.sqlx_text.specs.declared.error.Error.TheVariants as error
use Rattle.sqlx_traits.specs.Calls.{Outcome}
use Rattle.sqlx_traits.specs.Faults.{HasRisen}
use Rattle.sqlite_base.specs.Ran.{RanOn, RefusedOn, in_transaction}
use Rattle.sqlite_driver.specs.Does.{BeginsBy, Pings, RefusesText, RunsText}
use Rattle.sqlite_driver.specs.declared.connection.SqliteConnection.{SqliteConnection}

-- a text that is this one where it is there, and that ran, is this one
pub ran_as : {E : Type 0} (r : Outcome) (due : List ℕ) (text : Result (List ℕ) E) (before after : SqliteConnection)
    → IfOk text (λ t. t ≡ due) → OnOk r (IsOkAnd text (λ t. RunsText t before after)) → OnOk r (RunsText due before after)
ran_as (Ok done) due (Ok text) before after is ran = subst (λ t. RunsText t before after) is ran
ran_as (Ok done) due (Err e) before after is ran = absurd ran
ran_as (Err e) due text before after is ran = tt

-- what was noted is rolled back, and then the text runs, if it does
pub ran_settled : (r : Outcome) (text : List ℕ) (before settled after : SqliteConnection)
    → Pings before (Ok tt) settled → OnOk r (RanOn text settled.base after.base) → after.goes_back_to ≡ settled.goes_back_to
    → OnOk r (RunsText text before after)
ran_settled (Ok done) text before settled after is ran same = (settled.base, is.0, ran, same ∙ is.1)
ran_settled (Err e) text before settled after is ran same = tt

-- a count that has risen since a later moment has risen
pub risen_since : (a b c : ℕ) → a ≤ b → HasRisen b c → HasRisen a c
risen_since a b c later (inl rose) = inl (omega arith)
risen_since a b c later (inr last) = inr last

-- what was noted is rolled back, and then the text that is there is refused, if it is
pub refused_settled : {E : Type 0} (r : Outcome) (given : Result (List ℕ) E) (text : List ℕ) (before settled after : SqliteConnection)
    → given ≡ Ok text → Pings before (Ok tt) settled → before.faults ≤ settled.faults → IfErr r (RefusedOn text settled.base after.base)
    → after.goes_back_to ≡ settled.goes_back_to → OnErr r (HasRisen settled.faults after.faults)
    → IfErr r (λ e. (due : List ℕ) → IfOk given (λ t. t ≡ due) → RefusesText due before e after)
refused_settled (Ok done) given text before settled after same is later refused noted rose = tt
refused_settled (Err e) given text before settled after same is later refused noted rose =
    λ due there. inr (inr (
      settled.base,
      is.0,
      subst (λ t. RefusedOn t settled.base after.base e) (subst (λ g. IfOk g (λ t. t ≡ due)) same there) refused,
      noted ∙ is.1,
      risen_since before.faults settled.faults after.faults later rose,
    ))

-- a text that ran has begun a transaction, or the begin has failed
pub begun_by : (first r : Outcome) (text : List ℕ) (before ran after : SqliteConnection)
    → before.faults ≤ ran.faults → OnOk first (RunsText text before ran) → (after.base ≡ ran.base) × (after.goes_back_to ≡ ran.goes_back_to)
    → OnOk r (in_transaction after.base ≡ true) → IfErr r (λ e. e ≡ error.BeginFailed) → OnErr r (in_transaction after.base ≡ false)
    → OnErr r (HasRisen ran.faults after.faults) → OnOk first (BeginsBy text before r after)
begun_by (Ok done) (Ok also) text before ran after later (settled, is, runs, none) same stands failed closed rose =
    ((settled, is, subst (λ b. RanOn text settled b) (sym same.0) runs, same.1 ∙ none), stands)
begun_by (Ok done) (Err e) text before ran after later (settled, is, runs, none) same stands failed closed rose =
    inr (inl (
      failed,
      (settled, is, subst (λ b. RanOn text settled b) (sym same.0) runs, same.1 ∙ none),
      closed,
      risen_since before.faults ran.faults after.faults later rose,
    ))
begun_by (Err e) r text before ran after later runs same stands failed closed rose = tt
