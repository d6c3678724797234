use Rattle.sqlx_pool_core.proofs.Answered.{close-answered}
use Rattle.sqlx_pool_core.proofs.BalanceLemmas.{close-moves}
use Rattle.sqlx_pool_core.proofs.Drawn.{close-draws}
use Rattle.sqlx_pool_core.proofs.member.Member.close.Goals as goal

pub returns-clause-makes : goal.returns-clause-makes
returns-clause-makes g c = λ marks s.
    close-answered c.args.self.now c.shut_first.new.self marks c.shut_first.ensures.sound s c.shut_first.result.items c.shut_first.ensures.answer c.shut_first.ensures.becomes

pub returns-clause-balance : goal.returns-clause-balance
returns-clause-balance g c = close-moves c.args.self.now c.shut_first.new.self c.shut_first.ensures.sound c.shut_first.result.items c.shut_first.ensures.answer c.shut_first.ensures.becomes

pub returns-clause-draws : goal.returns-clause-draws
returns-clause-draws g c = close-draws c.args.self.now c.shut_first.new.self c.shut_first.result.items c.shut_first.ensures.answer c.shut_first.ensures.becomes
