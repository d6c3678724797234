use Rattle.sqlx_pool_core.proofs.Answered.{cancel-answered}
use Rattle.sqlx_pool_core.proofs.BalanceLemmas.{cancel-moves}
use Rattle.sqlx_pool_core.proofs.Drawn.{cancel-draws, cancel-stays}
use Rattle.sqlx_pool_core.proofs.member.Member.cancel.Goals as goal

pub returns-clause-makes : goal.returns-clause-makes
returns-clause-makes g c = λ marks s.
    cancel-answered c.args.self.now c.end_at_rest.new.self marks c.end_at_rest.ensures.sound s c.args.client c.args.ticket c.end_at_rest.result c.end_at_rest.ensures.answer c.end_at_rest.ensures.becomes

pub returns-clause-balance : goal.returns-clause-balance
returns-clause-balance g c =
    cancel-moves c.args.self.now c.end_at_rest.new.self c.end_at_rest.ensures.sound c.args.client c.args.ticket c.end_at_rest.result c.end_at_rest.ensures.answer c.end_at_rest.ensures.becomes

pub returns-clause-draws : goal.returns-clause-draws
returns-clause-draws g c = cancel-draws c.args.self.now c.end_at_rest.new.self c.args.ticket c.end_at_rest.result c.end_at_rest.ensures.becomes

pub returns-clause-stays : goal.returns-clause-stays
returns-clause-stays g c = cancel-stays c.args.self.now c.end_at_rest.new.self c.args.ticket c.end_at_rest.result c.end_at_rest.ensures.becomes
