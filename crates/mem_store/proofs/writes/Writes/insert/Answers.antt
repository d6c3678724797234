use Rattle.std.proofs.Common.{◌∙◌, refl, sym, arith, Some, nat_eq, to_z-of_z}
use Rattle.std.specs.HashMap.{get}
use Rattle.std.specs.Cmp.{int_cmp_total}
use Rattle.std.specs.FinMap.{get-from_entries}
use Rattle.sqlx_pool_places.proofs.Places.{noted-changed}
use Rattle.mem_store.specs.OwnWrites.{number_of, StandsAt}
use Rattle.mem_store.proofs.OnceEach.{get-at, not-gap, read-at, same-value, within-at, written-at, written-once}
use Rattle.mem_store.proofs.writes.Writes.insert.Goals as goal
use Rattle.mem_store.proofs.writes.Writes.insert.Goals.{in-Some-replace, in-None}

pub push-requires : goal.push-requires
push-requires c = let none = rw c.deref.ensures.value at c.in_default.ensures.none in rw (← c.self.view_is) (get-from_entries int_cmp_total _ _ ∙ none)

pub returns-in_default-clause-before : goal.returns-in_default-clause-before
returns-in_default-clause-before c =
    let none = rw (to_z-of_z c.ranges.key) at (rw c.deref.ensures.value at c.in_default.ensures.none) in
    rw (← c.self.view_is) (sym (get-from_entries int_cmp_total _ c.args.key ∙ none))

pub index_mut-requires : goal.index_mut-requires
index_mut-requires c =
    let there = c.in-Some.ensures.some in
    let within = within-at c.deref.result.now c.in-Some.place _ there.stands in
    let len = c.deref.ensures.len in
    omega (arith, within, len)

pub invariant_of-self : goal.invariant_of-self
invariant_of-self c =
    let there : StandsAt c.args.key c.self.inside.places.items c.in-Some.place = rw (to_z-of_z c.ranges.key, c.deref.ensures.value) at c.in-Some.ensures.some in
    rw (rw (to_z-of_z c.ranges.key) at c.replace.ensures.after) (
      λ t. noted-changed number_of c.self.inside.places.items (get nat_eq c.self.inside.notes.noted) c.in-Some.place (c.args.key, there.value) (c.args.key, c.args.value) there.stands refl (c.self.invariant.0 t),
      written-once c.args.key c.self.inside.places.items c.in-Some.place c.self.invariant.1 there c.args.value,
    )

pub returns-clause-before : goal.returns-clause-before
returns-clause-before c =
    let there : StandsAt c.args.key c.self.inside.places.items c.in-Some.place = rw (to_z-of_z c.ranges.key, c.deref.ensures.value) at c.in-Some.ensures.some in
    let stands = c.replace.ensures.value ∙ read-at c.self.inside.places.items c.in-Some.place (Some (c.args.key, there.value)) c.index_mut.result.now there.stands c.index_mut.ensures.value in
    elim c.match-replace.branch [
      | in-Some-replace w ↦ rw (w.result-is, ← c.self.view_is) (same-value c.replace.result c.args.key _ there.value w.in-Some-replace.before stands w.in-Some-replace.is ∙ sym (get-at c.args.key c.self.inside.places.items c.in-Some.place c.self.invariant.1 there))
      | in-None w ↦ absurd (not-gap c.replace.result c.args.key there.value stands w.in-None.is)
    ]

pub returns-clause-ok : goal.returns-clause-ok
returns-clause-ok c =
    let there : StandsAt c.args.key c.self.inside.places.items c.in-Some.place = rw (to_z-of_z c.ranges.key, c.deref.ensures.value) at c.in-Some.ensures.some in
    let after = rw (to_z-of_z c.ranges.key) at c.replace.ensures.after in
    elim c.match-replace.branch [
      | in-Some-replace w ↦ rw (w.result-is, ← c.self.view_is, after) (written-at c.args.key c.self.inside.places.items c.in-Some.place c.self.invariant.1 there c.args.value)
      | in-None w ↦ rw (w.result-is, ← c.self.view_is, after) (written-at c.args.key c.self.inside.places.items c.in-Some.place c.self.invariant.1 there c.args.value)
    ]
