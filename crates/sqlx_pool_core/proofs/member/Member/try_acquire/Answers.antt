use Rattle.sqlx_pool_core.proofs.Answered.{try-answered}
use Rattle.sqlx_pool_core.proofs.BalanceLemmas.{try-moves}
use Rattle.sqlx_pool_core.proofs.Drawn.{try-draws, try-stays}
use Rattle.sqlx_pool_core.proofs.member.Member.try_acquire.Goals as goal

pub returns-clause-makes : goal.returns-clause-makes
returns-clause-makes g c = λ marks s.
    try-answered c.args.self.now c.lend_first.new.self marks c.sound.ensures s c.args.passes c.requires.open c.args.client c.args.moment.0 c.lend_first.result c.lend_first.ensures.answer c.lend_first.ensures.becomes

pub returns-clause-balance : goal.returns-clause-balance
returns-clause-balance g c =
    try-moves c.args.self.now c.lend_first.new.self c.sound.ensures c.args.passes c.args.client c.args.moment.0 c.lend_first.result c.lend_first.ensures.answer c.lend_first.ensures.becomes

pub returns-clause-draws : goal.returns-clause-draws
returns-clause-draws g c = try-draws c.args.self.now c.lend_first.new.self c.args.client c.args.moment.0 c.lend_first.result c.lend_first.ensures.becomes

pub returns-clause-stays : goal.returns-clause-stays
returns-clause-stays g c = try-stays c.args.self.now c.lend_first.new.self c.args.client c.args.moment.0 c.lend_first.result c.lend_first.ensures.becomes
