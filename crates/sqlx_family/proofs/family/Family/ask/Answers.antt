use Rattle.std.proofs.Common.{◌<◌, length}
use Rattle.sqlx_pool_lists.specs.Balance.{ask_room}
use Rattle.sqlx_pool_lists.specs.PollSteps.{asked_marks}
use Rattle.sqlx_pool_lists.specs.Core.{Core}
use Rattle.sqlx_family.proofs.FamilyLemmas.{family-asked}
use Rattle.sqlx_family.proofs.LogLemmas.{logs-asked}
use Rattle.sqlx_family.proofs.BalanceLemmas.{balance-asked}
use Rattle.sqlx_family.proofs.family.Family.ask.Goals as goal

pub returns-clause-makes : goal.returns-clause-makes
returns-clause-makes g c =
    let here : c.args.pool < length c.self.inside.pools.items = rw (← c.self.view_is) at c.requires.named in
    rw (← c.moment-moment.ensures)
    (logs-asked c.self.inside.pools.items c.self.inside.shared _ c.args.pool c.index_mut.result.now c.hear.new.self c.ask-answer.new.self c.args.client c.moment-moment.result.0 c.ask-answer.result c.self.view_is here c.index_mut.ensures.value c.counts_as_closed-closed.result c.counts_as_closed-closed.ensures c.hear.ensures
    c.ask-answer.ensures.makes c.ask-answer.ensures.draws c.shared-self-inside.ensures)

pub invariant_of-self : goal.invariant_of-self
invariant_of-self g c =
    let here : c.args.pool < length c.self.inside.pools.items = rw (← c.self.view_is) at c.requires.named in
    family-asked c.self.inside.pools.items c.self.inside.shared c.args.pool c.index_mut.result.now c.hear.new.self c.ask-answer.new.self c.self.invariant here c.index_mut.ensures.value c.counts_as_closed-closed.result
    c.ask-answer.result _ c.hear.ensures c.ask-answer.ensures.stays c.ask-answer.ensures.draws c.ask-answer.ensures.err c.sound.ensures c.shared-self-inside.ensures

pub returns-clause-balance : goal.returns-clause-balance
returns-clause-balance g c =
    let here : c.args.pool < length c.self.inside.pools.items = rw (← c.self.view_is) at c.requires.named in
    rw (← c.moment-moment.ensures)
    (balance-asked c.self.inside.pools.items c.self.inside.shared _ c.args.pool c.index_mut.result.now c.hear.new.self c.ask-answer.new.self c.self.view_is here c.index_mut.ensures.value c.counts_as_closed-closed.result c.counts_as_closed-closed.ensures c.hear.ensures
    c.ask-answer.result (λ (core : Core _) t. asked_marks core c.args.client c.moment-moment.result.0 t) (λ (core : Core _). ask_room core.options.idle_tries) c.ask-answer.ensures.balance c.shared-self-inside.ensures)
