use Rattle.sqlx_pool_core.proofs.Answered.{connect-answered}
use Rattle.sqlx_pool_core.proofs.BalanceLemmas.{connect-moves}
use Rattle.sqlx_pool_core.proofs.Drawn.{connect-draws, connect-stays}
use Rattle.sqlx_pool_core.proofs.member.Member.finish_connect.Goals as goal

pub returns-clause-makes : goal.returns-clause-makes
returns-clause-makes g c = λ marks s.
    connect-answered c.args.self.now c.connect_done.new.self marks c.connect_done.ensures.sound s c.args.client c.args.ticket c.args.moment.0 c.args.tried c.connect_done.result c.connect_done.ensures.answer c.connect_done.ensures.becomes

pub returns-clause-balance : goal.returns-clause-balance
returns-clause-balance g c =
    connect-moves c.args.self.now c.connect_done.new.self c.connect_done.ensures.sound c.args.client c.args.ticket c.args.moment.0 c.args.tried c.connect_done.result c.connect_done.ensures.answer c.connect_done.ensures.becomes

pub returns-clause-draws : goal.returns-clause-draws
returns-clause-draws g c = connect-draws c.args.self.now c.connect_done.new.self c.connect_done.ensures.sound c.args.client c.args.ticket c.args.moment.0 c.args.tried c.connect_done.result c.connect_done.ensures.answer c.connect_done.ensures.becomes

pub returns-clause-stays : goal.returns-clause-stays
returns-clause-stays g c = connect-stays c.args.self.now c.connect_done.new.self c.args.client c.args.ticket c.args.moment.0 c.connect_done.result c.connect_done.ensures.becomes
