use Rattle.sqlx_pool_core.proofs.Answered.{give-answered}
use Rattle.sqlx_pool_core.proofs.BalanceLemmas.{give-moves}
use Rattle.sqlx_pool_core.proofs.Drawn.{give-draws, give-stays}
use Rattle.sqlx_pool_core.proofs.member.Member.give.Goals as goal

pub returns-clause-makes : goal.returns-clause-makes
returns-clause-makes g c = λ marks s.
    give-answered c.args.self.now c.take_back.new.self marks c.take_back.ensures.sound s c.args.client c.args.moment.0 c.args.lent c.args.accepted c.take_back.result c.take_back.ensures.answer c.take_back.ensures.becomes

pub returns-clause-balance : goal.returns-clause-balance
returns-clause-balance g c =
    give-moves c.args.self.now c.take_back.new.self c.take_back.ensures.sound c.args.client c.args.moment.0 c.args.lent c.args.accepted c.take_back.result c.take_back.ensures.answer c.take_back.ensures.becomes

pub returns-clause-draws : goal.returns-clause-draws
returns-clause-draws g c = give-draws c.args.self.now c.take_back.new.self c.args.client c.args.moment.0 c.args.lent c.take_back.result c.take_back.ensures.becomes

pub returns-clause-stays : goal.returns-clause-stays
returns-clause-stays g c = give-stays c.args.self.now c.take_back.new.self _ c.args.lent c.args.moment.0 c.take_back.result c.take_back.ensures.becomes
