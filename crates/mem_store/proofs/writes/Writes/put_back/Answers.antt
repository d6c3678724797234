use Rattle.std.proofs.Common.{refl, arith, nat_eq, to_z-of_z}
use Rattle.std.specs.HashMap.{get}
use Rattle.sqlx_pool_places.proofs.Places.{noted-changed, noted-gap}
use Rattle.mem_store.specs.OwnWrites.{number_of, StandsAt}
use Rattle.mem_store.proofs.OnceEach.{back-at, gone-from, gone-once, map-unfound, within-at, written-once}
use Rattle.mem_store.proofs.writes.Writes.put_back.Goals as goal
use Rattle.mem_store.proofs.writes.Writes.put_back.Goals.{in-Some-before, in-None}

pub returns-in_default : goal.returns-in_default
returns-in_default c =
    let none = rw (to_z-of_z c.ranges.key) at (rw c.deref.ensures.value at c.in_default.ensures.none) in
    rw (← c.self.view_is) (map-unfound _ c.args.key c.args.before none)

pub index_mut-requires : goal.index_mut-requires
index_mut-requires c =
    let there = c.in-Some.ensures.some in
    let within = within-at c.deref.result.now c.in-Some.place _ there.stands in
    let len = c.deref.ensures.len in
    omega (arith, within, len)

pub invariant_of-self : goal.invariant_of-self
invariant_of-self c =
    let there : StandsAt c.args.key c.self.inside.places.items c.in-Some.place = rw (to_z-of_z c.ranges.key, c.deref.ensures.value) at c.in-Some.ensures.some in
    let noted = get nat_eq c.self.inside.notes.noted in
    elim c.match-before.branch [
      | in-Some-before w ↦ rw (rw (to_z-of_z c.ranges.key) at w.write-is) (
        λ t. noted-changed number_of c.self.inside.places.items noted c.in-Some.place (c.args.key, there.value) (c.args.key, w.in-Some-before.value) there.stands refl (c.self.invariant.0 t),
        written-once c.args.key c.self.inside.places.items c.in-Some.place c.self.invariant.1 there w.in-Some-before.value,
      )
      | in-None w ↦ rw w.write-is (
        λ t. noted-gap number_of c.self.inside.places.items noted c.in-Some.place (c.self.invariant.0 t),
        gone-once c.args.key c.self.inside.places.items c.in-Some.place c.self.invariant.1 there,
      )
    ]

pub returns : goal.returns
returns c =
    let there : StandsAt c.args.key c.self.inside.places.items c.in-Some.place = rw (to_z-of_z c.ranges.key, c.deref.ensures.value) at c.in-Some.ensures.some in
    elim c.match-before.branch [
      | in-Some-before w ↦ rw (← c.self.view_is, rw (to_z-of_z c.ranges.key) at w.write-is, w.in-Some-before.is) (back-at c.args.key c.self.inside.places.items c.in-Some.place c.self.invariant.1 there w.in-Some-before.value)
      | in-None w ↦ rw (← c.self.view_is, w.write-is, w.in-None.is) (gone-from c.args.key c.self.inside.places.items c.in-Some.place c.self.invariant.1 there)
    ]
