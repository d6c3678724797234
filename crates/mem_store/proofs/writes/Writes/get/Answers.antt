use Rattle.std.proofs.Common.{◌∙◌, sym, arith, Some, to_z-of_z}
use Rattle.std.specs.Cmp.{int_cmp_total}
use Rattle.std.specs.FinMap.{get-from_entries}
use Rattle.mem_store.specs.OwnWrites.{StandsAt}
use Rattle.mem_store.proofs.OnceEach.{get-at, not-gap, read-at, same-value, within-at}
use Rattle.mem_store.proofs.writes.Writes.get.Goals as goal

pub returns-in_err-place : goal.returns-in_err-place
returns-in_err-place c =
    let none = rw (to_z-of_z c.ranges.key) at (rw c.deref.ensures.value at (rw c.in_err-place.was at c.place_of.ensures.none)) in
    rw (← c.self.view_is) (c.from_residual.ensures ∙ sym (get-from_entries int_cmp_total _ c.args.key ∙ none))

pub index-requires : goal.index-requires
index-requires c =
    let there = c.in_ok-place.ensures.some in
    let within = within-at c.deref.result.now c.in_ok-place.place _ there.stands in
    let len = c.deref.ensures.len in
    omega (arith, within, len)

pub returns-in_err-value : goal.returns-in_err-value
returns-in_err-value c =
    let there : StandsAt c.args.key c.self.inside.places.items c.in_ok-place.place = rw (to_z-of_z c.ranges.key, c.deref.ensures.value) at c.in_ok-place.ensures.some in
    let stands = read-at c.self.inside.places.items c.in_ok-place.place (Some (c.args.key, there.value)) c.index.result.now there.stands c.index.ensures in
    absurd (not-gap c.index.result.now c.args.key there.value stands c.in_err-value.was)

pub returns : goal.returns
returns c =
    let there : StandsAt c.args.key c.self.inside.places.items c.in_ok-place.place = rw (to_z-of_z c.ranges.key, c.deref.ensures.value) at c.in_ok-place.ensures.some in
    let stands = read-at c.self.inside.places.items c.in_ok-place.place (Some (c.args.key, there.value)) c.index.result.now there.stands c.index.ensures in
    rw (← c.self.view_is) (same-value c.index.result.now c.args.key _ there.value c.in_ok-value.value stands c.in_ok-value.was ∙ sym (get-at c.args.key c.self.inside.places.items c.in_ok-place.place c.self.invariant.1 there))
