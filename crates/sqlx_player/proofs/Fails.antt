-- A call that isn't among those that fail tells no fault.
use Rattle.std.proofs.Common.{◌≡◌, ◌↔◌, ℕ, Bool, true, false, Result, Ok, Err, IfErr, IsErrOf}
use Rattle.sqlx_player.specs.declared.failed.Failed.{Failed}
use Rattle.sqlx_player.specs.declared.failed.Failed.TheVariants.{Fault, OutOfMemory}

pub no_fault : (r : Result ℕ Failed) (listed fails : Bool) → IfErr r (λ e. e ≡ OutOfMemory) → listed ≡ fails → listed ≡ false → IsErrOf r Fault ↔ (fails ≡ true)
no_fault (Ok n) listed fails e same no' = (λ h. cc, λ yes'. cc)
no_fault (Err Fault) listed fails e same no' = (λ h. cc, λ yes'. cc)
no_fault (Err OutOfMemory) listed fails e same no' = (λ h. cc, λ yes'. cc)
