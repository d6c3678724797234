use Rattle.sqlx_pool_core.proofs.Answered.{reap-answered}
use Rattle.sqlx_pool_core.proofs.BalanceLemmas.{reap-moves}
use Rattle.sqlx_pool_core.proofs.Drawn.{reap-draws, reap-stays}
use Rattle.sqlx_pool_core.proofs.member.Member.reap.Goals as goal

pub returns-clause-makes : goal.returns-clause-makes
returns-clause-makes g c = λ marks s.
    reap-answered c.args.self.now c.reap_at.new.self marks c.sound.ensures s c.args.passes c.requires.open c.args.moment.0 c.reap_at.result c.reap_at.ensures.answer c.reap_at.ensures.becomes

pub returns-clause-balance : goal.returns-clause-balance
returns-clause-balance g c =
    reap-moves c.args.self.now c.reap_at.new.self c.sound.ensures c.args.passes c.args.moment.0 c.reap_at.result c.reap_at.ensures.answer c.reap_at.ensures.becomes

pub returns-clause-draws : goal.returns-clause-draws
returns-clause-draws g c = reap-draws c.args.self.now c.reap_at.new.self c.args.moment.0 c.reap_at.result c.reap_at.ensures.becomes

pub returns-clause-stays : goal.returns-clause-stays
returns-clause-stays g c = reap-stays c.args.self.now c.reap_at.new.self c.args.moment.0 c.reap_at.result c.reap_at.ensures.becomes
