use Rattle.std.proofs.Common.{◌<◌, length}
use Rattle.sqlx_pool_lists.specs.Core.{Core}
use Rattle.sqlx_pool_core.specs.ReturnSteps.{leak_marks}
use Rattle.sqlx_family.proofs.FamilyLemmas.{family-steps}
use Rattle.sqlx_family.proofs.LogLemmas.{logs-kept}
use Rattle.sqlx_family.proofs.BalanceLemmas.{balance-kept}
use Rattle.sqlx_family.proofs.family.Family.leak.Goals as goal

pub returns-clause-makes : goal.returns-clause-makes
returns-clause-makes g c =
    let here : c.args.pool < length c.self.inside.pools.items = rw (← c.self.view_is) at c.requires.named in
    logs-kept c.self.inside.pools.items c.self.inside.shared _ c.args.pool c.index_mut.result.now c.hear.new.self c.leak-answer.new.self _ c.self.view_is here c.index_mut.ensures.value c.counts_as_closed-closed.result c.counts_as_closed-closed.ensures c.hear.ensures
    c.leak-answer.ensures.makes c.leak-answer.ensures.draws c.shared-self-inside.ensures

pub invariant_of-self : goal.invariant_of-self
invariant_of-self g c =
    let here : c.args.pool < length c.self.inside.pools.items = rw (← c.self.view_is) at c.requires.named in
    family-steps c.self.inside.pools.items c.self.inside.shared c.args.pool c.index_mut.result.now c.hear.new.self c.leak-answer.new.self c.self.invariant here c.index_mut.ensures.value c.counts_as_closed-closed.result
    _ c.hear.ensures c.leak-answer.ensures.stays c.leak-answer.ensures.draws c.sound.ensures c.shared-self-inside.ensures

pub returns-clause-balance : goal.returns-clause-balance
returns-clause-balance g c =
    let here : c.args.pool < length c.self.inside.pools.items = rw (← c.self.view_is) at c.requires.named in
    (balance-kept c.self.inside.pools.items c.self.inside.shared _ c.args.pool c.index_mut.result.now c.hear.new.self c.leak-answer.new.self c.self.view_is here c.index_mut.ensures.value c.counts_as_closed-closed.result c.counts_as_closed-closed.ensures c.hear.ensures
    (λ (core : Core _). leak_marks c.args.id c.leak-answer.result) c.leak-answer.ensures.balance c.shared-self-inside.ensures)
