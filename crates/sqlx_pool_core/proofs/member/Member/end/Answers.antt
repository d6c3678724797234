use Rattle.sqlx_pool_core.proofs.Answered.{end-answered}
use Rattle.sqlx_pool_core.proofs.BalanceLemmas.{end-moves}
use Rattle.sqlx_pool_core.proofs.Drawn.{end-draws, release-stays}
use Rattle.sqlx_pool_core.proofs.member.Member.end.Goals as goal

pub returns-clause-makes : goal.returns-clause-makes
returns-clause-makes g c = λ marks s.
    end-answered c.args.self.now c.release.new.self marks c.release.ensures.sound s c.args.client c.args.id c.release.result c.release.ensures.answer c.release.ensures.becomes

pub returns-clause-balance : goal.returns-clause-balance
returns-clause-balance g c =
    end-moves c.args.self.now c.release.new.self c.release.ensures.sound c.args.client c.args.id c.release.result c.release.ensures.answer c.release.ensures.becomes

pub returns-clause-draws : goal.returns-clause-draws
returns-clause-draws g c = end-draws c.args.self.now c.release.new.self c.args.id c.release.result c.release.ensures.becomes

pub returns-clause-stays : goal.returns-clause-stays
returns-clause-stays g c = release-stays c.args.self.now c.release.new.self c.args.id c.release.result c.release.ensures.becomes
