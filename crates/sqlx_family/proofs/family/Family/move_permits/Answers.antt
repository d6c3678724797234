use Rattle.sqlx_family.proofs.FamilyLemmas.{family-moves}
use Rattle.sqlx_family.proofs.family.Family.move_permits.Goals as goal

pub invariant_of-self : goal.invariant_of-self
invariant_of-self g c =
    rw c.set_permits.ensures (rw c.permits.ensures (rw c.set_permits-2.ensures (rw c.permits-2.ensures
    (family-moves c.self.inside.pools.items c.self.inside.shared _ c.args.from c.args.to c.args.count c.index_mut.result.now c.index_mut-2.result.now c.self.invariant c.self.view_is c.requires.from c.requires.to c.requires.free c.requires.room
    c.index_mut.ensures.value (rw c.permits.ensures at (rw c.set_permits.ensures at c.index_mut-2.ensures.value)) c.sound.ensures.paid))))
