use Rattle.sqlx_pool_core.proofs.Answered.{start-answered}
use Rattle.sqlx_pool_core.proofs.BalanceLemmas.{start-moves}
use Rattle.sqlx_pool_core.proofs.Drawn.{start-draws, start-stays}
use Rattle.sqlx_pool_core.proofs.member.Member.start.Goals as goal

pub returns-clause-makes : goal.returns-clause-makes
returns-clause-makes g c = λ marks s.
    start-answered c.args.self.now c.start_at.new.self marks c.start_at.ensures.sound s c.args.entitled c.requires.permit c.args.client c.args.ticket c.args.moment.0 c.start_at.result c.start_at.ensures.answer c.start_at.ensures.becomes

pub returns-clause-balance : goal.returns-clause-balance
returns-clause-balance g c =
    start-moves c.args.self.now c.start_at.new.self c.start_at.ensures.sound c.args.entitled c.args.client c.args.ticket c.args.moment.0 c.start_at.result c.start_at.ensures.answer c.start_at.ensures.becomes

pub returns-clause-draws : goal.returns-clause-draws
returns-clause-draws g c = start-draws c.args.self.now c.start_at.new.self c.start_at.ensures.sound c.args.entitled c.args.client c.args.ticket c.args.moment.0 c.start_at.result c.start_at.ensures.answer c.start_at.ensures.becomes

pub returns-clause-stays : goal.returns-clause-stays
returns-clause-stays g c = start-stays c.args.self.now c.start_at.new.self c.args.ticket c.args.moment.0 c.start_at.result c.start_at.ensures.becomes
