use Rattle.std.proofs.Common.{◌≡◌, ◌∙◌, Some, ap, sym, refl, eqb-true, ltb-true, ltb-false, is_some, arith}
use Rattle.std.proofs.lemmas.Option.{same_Some, slice_get_read, get_or_from_slice_get, slice_get_within}
use Rattle.sqlx_pool_places.proofs.notes.stands_at.Goals as goal

pub returns-in-Some-Some-clause-yes : goal.returns-in-Some-Some-clause-yes
returns-in-Some-Some-clause-yes g c = λ equal none.
    let same : (x : g.row.T.Denot) → c.in-Some-Some.field-0.now ≡ Some x → g.N.Numbering.number x ≡ c.args.number = λ x is. cc (eqb-true _ _ equal) in
    let found = c.in-Some-Some.ensures.lookup in
    let there = slice_get_read _ _ c.args.place _ refl (ltb-true _ _ (sym found.0)) found.1 ∙ ap Some c.in-Some-Some.field-0-is in
    record { thing = c.in-Some-Some.thing; stands = there; is = same _ c.in-Some-Some.field-0-is; first = none }

pub returns-in-Some-Some-clause-no : goal.returns-in-Some-Some-clause-no
returns-in-Some-Some-clause-no g c = λ no x at.
    let there : Some x ≡ Some c.in-Some-Some.thing = sym (get_or_from_slice_get c.args.places.now c.args.place (Some x) c.in-Some-Some.field-0.now at) ∙ sym c.in-Some-Some.ensures.lookup.1 ∙ c.in-Some-Some.field-0-is in
    let same = same_Some _ _ there in
    rw (same, ← c.number.ensures) no

pub returns-in_default-clause-no : goal.returns-in_default-clause-no
returns-in_default-clause-no g c = λ no x at. let there = get_or_from_slice_get c.args.places.now c.args.place (Some x) c.in_default.field-0.now at in absurd (cc (there, (rw c.in_default.is at c.get.ensures.lookup).1))

pub returns-in_default-2-clause-no : goal.returns-in_default-2-clause-no
returns-in_default-2-clause-no g c = λ no x at.
    let past = ltb-false _ _ (sym c.get.ensures.lookup.0 ∙ ap is_some c.in_default.is) in
    absurd (omega (arith, past, slice_get_within c.args.places.now c.args.place (Some x) at))
