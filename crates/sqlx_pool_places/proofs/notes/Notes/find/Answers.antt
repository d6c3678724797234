use Rattle.std.proofs.Common.{◌∙◌, nat_eq, sym}
use Rattle.std.specs.HashMap.{get}
use Rattle.sqlx_pool_places.proofs.Places.{noted-none, noted-first, noted-other}
use Rattle.sqlx_pool_places.proofs.notes.Notes.find.Goals as goal

pub returns-then-not-self-clause-some : goal.returns-then-not-self-clause-some
returns-then-not-self-clause-some g c = c.look_for.ensures.some

pub returns-then-not-self-clause-none : goal.returns-then-not-self-clause-none
returns-then-not-self-clause-none g c = c.look_for.ensures.none

pub returns-in_err-place-clause-some : goal.returns-in_err-place-clause-some
returns-in_err-place-clause-some g c = rw c.from_residual.ensures tt

pub returns-in_err-place-clause-none : goal.returns-in_err-place-clause-none
returns-in_err-place-clause-none g c =
    let none = noted-none g.N.Numbering.number c.args.number c.args.places.now (get nat_eq c.args.self.now.noted) (c.requires c.if-not-self.false) (sym (c.in_err-place.ensures {u = tt} ∙ c.get.ensures.value)) in
    rw c.from_residual.ensures (none _)

pub returns-then-stands_at-clause-some : goal.returns-then-stands_at-clause-some
returns-then-stands_at-clause-some g c =
    c.stands_at.ensures.yes c.if-stands_at.true (noted-first g.N.Numbering.number c.args.number c.args.places.now (get nat_eq c.args.self.now.noted) c.in_ok-place.place (c.requires c.if-not-self.false) (sym (c.in_ok-place.ensures {u = tt} ∙ c.get.ensures.value)))

pub returns-else-stands_at-clause-none : goal.returns-else-stands_at-clause-none
returns-else-stands_at-clause-none g c =
    noted-other g.N.Numbering.number c.args.number c.args.places.now (get nat_eq c.args.self.now.noted) c.in_ok-place.place (c.requires c.if-not-self.false) (sym (c.in_ok-place.ensures {u = tt} ∙ c.get.ensures.value)) (c.stands_at.ensures.no c.if-stands_at.false) _
