use Rattle.std.proofs.Common.{ap, ltb-false, ltb-true, refl, sym}
use Rattle.std.specs.Option.{option_flatten}
use Rattle.std.proofs.lemmas.Option.{slice_get_past, slice_get_read}
use Rattle.sqlx_any.proofs.describe.Describe.nullable.Goals as goal

pub returns-in-Some : goal.returns-in-Some
returns-in-Some g c =
    let found = slice_get_read c.deref.result.now _ c.args.column c.in-Some.nullable.now refl (ltb-true _ _ (sym c.in-Some.ensures.lookup.0)) c.in-Some.ensures.lookup.1 in
    rw (← c.deref.ensures.value) (ap option_flatten (sym found))

pub returns-in-None : goal.returns-in-None
returns-in-None g c = rw (← c.deref.ensures.value, slice_get_past c.deref.result.now c.args.column (ltb-false _ _ (sym c.in-None.ensures.lookup.0))) refl
