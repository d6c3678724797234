use Rattle.std.proofs.Common.{sym, ◌∙◌, arith, nat_eq, Some}
use Rattle.std.specs.HashMap.{get}
use Rattle.sqlx_pool_places.proofs.Places.{find-none, find-first, noted-gap, got-within}
use Rattle.sqlx_play.specs.stage.LentLinks.{number_of}
use Rattle.sqlx_play.proofs.links.LentPlaces.{without-none, without-first, standing}
use Rattle.sqlx_play.proofs.stage.loans.lent.LentList.take.Goals as goal

pub returns-in_err-place-clause-found : goal.returns-in_err-place-clause-found
returns-in_err-place-clause-found c =
    let none = rw c.deref.ensures.value at (rw c.in_err-place.was at c.find.ensures.none) in
    rw (← c.self.view_is) (c.from_residual.ensures ∙ sym (find-none number_of c.args.conn c.self.inside.places.items none))

pub returns-in_err-place-clause-rest : goal.returns-in_err-place-clause-rest
returns-in_err-place-clause-rest c =
    let none = rw c.deref.ensures.value at (rw c.in_err-place.was at c.find.ensures.none) in
    rw (← c.self.view_is) (sym (without-none number_of c.args.conn c.self.inside.places.items none))

pub index_mut-requires : goal.index_mut-requires
index_mut-requires c =
    let there = c.in_ok-place.ensures.some in
    let within = got-within c.deref.result.now c.in_ok-place.place there.thing there.stands in
    let len = c.deref.ensures.len in
    omega (arith, within, len)

pub invariant_of-self : goal.invariant_of-self
invariant_of-self c = rw c.take.ensures.after (λ t. noted-gap number_of c.self.inside.places.items (get nat_eq c.self.inside.notes.noted) c.in_ok-place.place (c.self.invariant t))

pub returns-clause-found : goal.returns-clause-found
returns-clause-found c =
    let there = rw c.deref.ensures.value at c.in_ok-place.ensures.some in
    let stands = standing c.self.inside.places.items c.in_ok-place.place (Some there.thing) c.index_mut.result.now there.stands c.index_mut.ensures.value in
    rw (← c.self.view_is) (c.take.ensures.value ∙ stands ∙ sym (find-first number_of c.args.conn c.self.inside.places.items c.in_ok-place.place there))

pub returns-clause-rest : goal.returns-clause-rest
returns-clause-rest c =
    let there = rw c.deref.ensures.value at c.in_ok-place.ensures.some in
    rw (← c.self.view_is, c.take.ensures.after) (without-first number_of c.args.conn c.self.inside.places.items c.in_ok-place.place there)
