use Rattle.std.proofs.Common.{◌≡◌, inl, refl}
use Rattle.sqlx_text.specs.Errors.{error_of}
use Rattle.sqlx_text.specs.declared.error.Error.{Error}
use Rattle.sqlx_text.specs.declared.error.Error.TheVariants as error
use Rattle.sqlx_text.specs.declared.fault.Fault.{Fault}
use Rattle.sqlx_text.specs.declared.fault.Fault.TheVariants as fault
use Rattle.sqlx_traits.proofs.reads.refused.Goals as goal

wrapped : (wrap : Fault → Error) (f : Fault) → (f ≡ fault.OutOfMemory → ⊥) → error_of wrap f ≡ wrap f
wrapped wrap fault.OutOfMemory other = absurd (other refl)
wrapped wrap f other = refl

pub returns-in-Ok : goal.returns-in-Ok
returns-in-Ok g c =
    inl (rw (wrapped (error.ColumnDecode (g.I.ColumnIndex.shown c.args.index.now)) c.args.fault c.in_default.not-OutOfMemory, ← c.in-Ok.ensures) refl)
