use Rattle.std.proofs.Common.{Err, Ok, inl, inr, refl, subst, ◌≤◌}
use Rattle.std.proofs.lemmas.Option.{slice_get_past}
use Rattle.sqlx_traits.specs.Places.{at_place}
use Rattle.sqlx_any.proofs.mapped.cell.Goals as goal

pub returns-in-Err : goal.returns-in-Err
returns-in-Err g c = elim c.in-Err.ensures [
  | inl refused ↦ inl (rw refused refl)
  | inr none ↦ inr none
]

pub returns-then-index-len : goal.returns-then-index-len
returns-then-index-len g c =
    let past = subst (λ n. n ≤ c.ordinal-index.result) c.len-len.ensures.values c.if-index-len.true in
    inl (rw (c.in-Ok.ensures, ← c.ordinal-index.ensures, slice_get_past (g.DB.Row.Row.values c.args.row.now) c.ordinal-index.result past, at_place, ← c.len-len.ensures.values, ← c.ordinal-index.ensures) refl)

pub returns-in-Ok-value_from : goal.returns-in-Ok-value_from
returns-in-Ok-value_from g c =
    rw (c.in-Ok.ensures, ← c.ordinal-index.ensures, c.value.ensures, at_place) (Ok c.in-Ok-value_from.kind, c.in-Ok-value_from.ensures, refl)

pub returns-in-Err-value_from : goal.returns-in-Err-value_from
returns-in-Err-value_from g c = elim c.in-Err-value_from.ensures [
  | inl refused ↦ inl (rw (c.in-Ok.ensures, ← c.ordinal-index.ensures, c.value.ensures, at_place) (Err c.in-Err-value_from.error, refused, refl))
  | inr none ↦ inr none
]
