use Rattle.std.proofs.Common.{◌<◌, length}
use Rattle.sqlx_pool_lists.specs.Core.{Core}
use Rattle.sqlx_pool_core.specs.ReturnSteps.{give_marks}
use Rattle.sqlx_family.proofs.FamilyLemmas.{family-steps}
use Rattle.sqlx_family.proofs.LogLemmas.{logs-stepped}
use Rattle.sqlx_family.proofs.BalanceLemmas.{balance-stepped}
use Rattle.sqlx_family.proofs.family.Family.give.Goals as goal

pub returns-clause-makes : goal.returns-clause-makes
returns-clause-makes g c =
    let here : c.args.pool < length c.self.inside.pools.items = rw (← c.self.view_is) at c.requires.named in
    rw (← c.moment-moment.ensures)
    (logs-stepped c.self.inside.pools.items c.self.inside.shared _ c.args.pool c.index_mut.result.now c.hear.new.self c.give-answer.new.self _ c.self.view_is here c.index_mut.ensures.value c.counts_as_closed-closed.result c.counts_as_closed-closed.ensures c.hear.ensures
    c.give-answer.ensures.makes c.give-answer.ensures.draws c.settle.new.self (rw c.shared-self-inside.ensures at c.settle.ensures.becomes))

pub invariant_of-self : goal.invariant_of-self
invariant_of-self g c =
    let here : c.args.pool < length c.self.inside.pools.items = rw (← c.self.view_is) at c.requires.named in
    family-steps c.self.inside.pools.items c.self.inside.shared c.args.pool c.index_mut.result.now c.hear.new.self c.give-answer.new.self c.self.invariant here c.index_mut.ensures.value c.counts_as_closed-closed.result
    _ c.hear.ensures c.give-answer.ensures.stays c.give-answer.ensures.draws c.sound.ensures c.shared-self-inside.ensures

pub returns-clause-balance : goal.returns-clause-balance
returns-clause-balance g c =
    let here : c.args.pool < length c.self.inside.pools.items = rw (← c.self.view_is) at c.requires.named in
    rw (← c.moment-moment.ensures)
    (balance-stepped c.self.inside.pools.items c.self.inside.shared _ c.args.pool c.index_mut.result.now c.hear.new.self c.give-answer.new.self c.self.view_is here c.index_mut.ensures.value c.counts_as_closed-closed.result c.counts_as_closed-closed.ensures c.hear.ensures
    (λ (core : Core _). give_marks c.args.lent.id c.moment-moment.result.0 c.give-answer.result) c.give-answer.ensures.balance c.settle.new.self (rw c.shared-self-inside.ensures at c.settle.ensures.becomes))
