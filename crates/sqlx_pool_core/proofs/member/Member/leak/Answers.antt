use Rattle.sqlx_pool_core.proofs.Answered.{leak-answered}
use Rattle.sqlx_pool_core.proofs.BalanceLemmas.{leak-moves}
use Rattle.sqlx_pool_core.proofs.Drawn.{leak-draws, leak-stays}
use Rattle.sqlx_pool_core.proofs.member.Member.leak.Goals as goal

pub returns-clause-makes : goal.returns-clause-makes
returns-clause-makes g c = λ marks s.
    leak-answered c.args.self.now c.lose.new.self marks c.lose.ensures.sound s c.args.client c.args.id c.lose.result c.lose.ensures.answer c.lose.ensures.becomes

pub returns-clause-balance : goal.returns-clause-balance
returns-clause-balance g c =
    leak-moves c.args.self.now c.lose.new.self c.lose.ensures.sound c.args.client c.args.id c.lose.result c.lose.ensures.answer c.lose.ensures.becomes

pub returns-clause-draws : goal.returns-clause-draws
returns-clause-draws g c = leak-draws c.args.self.now c.lose.new.self c.args.id c.lose.result c.lose.ensures.becomes

pub returns-clause-stays : goal.returns-clause-stays
returns-clause-stays g c = leak-stays c.args.self.now c.lose.new.self c.args.id c.lose.result c.lose.ensures.becomes
