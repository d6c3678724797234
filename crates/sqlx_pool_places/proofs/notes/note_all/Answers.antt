use Rattle.std.proofs.Common.{◌≡◌, ◌∙◌, ℕ, Some, nat_eq, slice_get, arith}
use Rattle.std.specs.HashMap.{get}
use Rattle.std.proofs.lemmas.Option.{get_or_from_slice_get, slice_get_within}
use Rattle.sqlx_pool_places.proofs.Places.{below-next}
use Rattle.sqlx_pool_places.proofs.notes.note_all.Goals as goal

pub loop-place-preserved : goal.loop-place-preserved
loop-place-preserved g c =
    let noted = c.note_new.ensures c.if-not-note_new.false in
    let place = c.loop-place.place in
    let thing = c.index-places-place in
    below-next (λ (j : ℕ). (x : g.row.T.Denot) → slice_get c.args.places.now j ≡ Some (Some x) → get nat_eq c.note_new.new.noted (g.N.Numbering.number x) ≡ Some j) place
    (λ j l x at. noted.kept _ j (c.loop-place.invariant j l x at))
    (λ x at. noted.one_more x (thing.is ∙ get_or_from_slice_get c.args.places.now place (Some x) thing.result at))

pub returns : goal.returns
returns g c = λ yes i x at. c.loop-place.invariant i (omega (arith, slice_get_within c.args.places.now i (Some x) at)) x at
