-- Why a try to open a connection opened none, told by the counts.
use Rattle.std.proofs.Common.{◌≡◌, ◌⊎◌, ℕ, Bool, inl, inr}
use Rattle.sqlx_text.specs.declared.error.Error.{Error}
use Rattle.sqlx_text.specs.declared.error.Error.TheVariants as error
use Rattle.sqlx_pool_core.specs.declared.idle_check.Opening.{Opening}
use Rattle.sqlx_pool_core.specs.declared.idle_check.Opening.TheVariants as opening
use Rattle.sqlx_pool_core.specs.Calls.{Call, Facts}
use Rattle.sqlx_pool_core.specs.Chain.{Tries}
use Rattle.sqlx_pool_core.specs.Outside.{HasRisen}
use Rattle.sqlx_pool_core.proofs.CheckEnds.{unopened}
use Rattle.sqlx_pool_core.proofs.CheckEnds.{tries-cause}
use Rattle.sqlx_pool_parts.specs.Opened.{IfUnopened, IsCounted}

module _ {C O X : Type 0} (does : Call C O → X → X → Type 0) (depth : X → C → ℕ) (faults refusals : X → ℕ) (IsShort : X → Type 0) (facts : (c : Call C O) (old new : X) → does c old new → Facts faults refusals depth IsShort c old new) where
  failed-why : (e : Error) (old new : X) → (e ≡ error.OutOfMemory) ⊎ HasRisen (faults old) (faults new) → (e ≡ error.OutOfMemory) ⊎ IsCounted faults refusals old new
  failed-why e old new (inl short) = inl short
  failed-why e old new (inr rose) = inr (inl rose)

  pub unopened-why : (hook : Bool) (options : O) (o : Opening C) (old new : X) → Tries does depth hook options o old new → IfUnopened o (IsCounted faults refusals old new)
  unopened-why hook options (opening.Opened raw) old new t = tt
  unopened-why hook options opening.Rejected old new t = unopened does depth faults refusals IsShort facts hook options opening.Rejected old new t
  unopened-why hook options opening.Transient old new t = unopened does depth faults refusals IsShort facts hook options opening.Transient old new t
  unopened-why hook options (opening.Failed e) old new t = failed-why e old new (tries-cause does depth faults refusals IsShort facts hook options (opening.Failed e) old new t).0
