-- Refusals of a database, as those of opening it.
use Rattle.sqlx_traits.specs.Faults.{CloseCause, OpenCause}
use Rattle.sqlite_base.specs.Refusals.{refusal_error}
use Rattle.sqlite_base.specs.declared.refusal.Refusal.{Refusal}
use Rattle.sqlite_base.specs.declared.refusal.Refusal.TheVariants as refusal

-- what closing may answer, opening may
pub opens_told : (r : Refusal) → CloseCause (refusal_error r) → OpenCause (refusal_error r)
opens_told refusal.OutOfMemory cause = tt
opens_told (refusal.Database reason message) cause = tt
opens_told refusal.NoKind cause = absurd cause
