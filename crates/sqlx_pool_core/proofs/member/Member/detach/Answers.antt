use Rattle.sqlx_pool_core.proofs.Answered.{detach-answered}
use Rattle.sqlx_pool_core.proofs.BalanceLemmas.{detach-moves}
use Rattle.sqlx_pool_core.proofs.Drawn.{detach-draws, release-stays}
use Rattle.sqlx_pool_core.proofs.member.Member.detach.Goals as goal

pub returns-clause-makes : goal.returns-clause-makes
returns-clause-makes g c = λ marks s.
    detach-answered c.args.self.now c.release.new.self marks c.release.ensures.sound s c.args.client c.args.id c.release.result c.release.ensures.answer c.release.ensures.becomes

pub returns-clause-balance : goal.returns-clause-balance
returns-clause-balance g c =
    detach-moves c.args.self.now c.release.new.self c.release.ensures.sound c.args.client c.args.id c.release.result c.release.ensures.answer c.release.ensures.becomes

pub returns-clause-draws : goal.returns-clause-draws
returns-clause-draws g c = detach-draws c.args.self.now c.release.new.self c.args.id c.release.result c.release.ensures.becomes

pub returns-clause-stays : goal.returns-clause-stays
returns-clause-stays g c = release-stays c.args.self.now c.release.new.self c.args.id c.release.result c.release.ensures.becomes
