use Rattle.std.proofs.Common.{◌≡◌, ◌∙◌, Some, ap, sym, refl, ltb-true, ltb-false, is_some, arith, ne_eqb}
use Rattle.std.proofs.lemmas.Option.{slice_get_read, get_or_from_slice_get, slice_get_within}
use Rattle.sqlx_pool_places.specs.declared.rising_places.Place.TheVariants.{Here}
use Rattle.sqlx_pool_places.proofs.rising_places.thing_at.Goals.{in_default-via-in-Some+in_default, in_default-via-in_default}
use Rattle.sqlx_pool_places.proofs.rising_places.thing_at.Goals as goal

pub returns-in_default-clause-none : goal.returns-in_default-clause-none
returns-in_default-clause-none g c = elim c.in_default.branch [
  | in_default-via-in-Some+in_default w ↦ λ x at.
      let there = get_or_from_slice_get c.args.places.now.items c.args.place (Here x) w.in_default.field-0.now at in
      absurd (cc (there, rw w.in_default.is at c.get.ensures.lookup))
  | in_default-via-in_default w ↦ λ x at.
      let past = ltb-false _ _ (sym c.get.ensures.item.0 ∙ ap is_some w.in_default.is) in
      absurd (omega (arith, past, slice_get_within c.args.places.now.items c.args.place (Here x) at))
]

pub returns-then-number-clause-some : goal.returns-then-number-clause-some
returns-then-number-clause-some g c =
    let found = c.in-Some-Here.ensures in
    let there = slice_get_read _ _ c.args.place _ refl (ltb-true _ _ (sym found.item.0)) found.lookup ∙ ap Some c.in-Some-Here.field-0-is in
    (there, sym (c.if-number.true ∙ c.number.ensures))

pub returns-else-number-clause-none : goal.returns-else-number-clause-none
returns-else-number-clause-none g c = λ x at.
    let there = get_or_from_slice_get c.args.places.now.items c.args.place (Here x) c.in-Some-Here.field-0.now at in
    let same : x ≡ c.in-Some-Here.thing = cc (there, c.in-Some-Here.ensures.lookup) in
    rw (same, ← c.number.ensures) (ne_eqb _ _ c.if-number.false)
