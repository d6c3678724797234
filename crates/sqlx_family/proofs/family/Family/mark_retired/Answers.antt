use Rattle.std.proofs.Common.{◌<◌, length}
use Rattle.sqlx_family.proofs.FamilyLemmas.{family-retiring}
use Rattle.sqlx_family.proofs.family.Family.mark_retired.Goals as goal

pub invariant_of-self : goal.invariant_of-self
invariant_of-self g c =
    let here : c.args.pool < length c.self.inside.pools.items = rw (← c.self.view_is) at c.requires.named in
    family-retiring c.self.inside.pools.items c.self.inside.shared c.args.pool c.index_mut.result.now c.self.invariant here c.index_mut.ensures.value
