use Rattle.sqlx_pool_core.proofs.Answered.{done-answered}
use Rattle.sqlx_pool_core.proofs.BalanceLemmas.{done-moves}
use Rattle.sqlx_pool_core.proofs.Drawn.{done-draws, done-stays}
use Rattle.sqlx_pool_core.proofs.member.Member.minimum_done.Goals as goal

pub returns-clause-makes : goal.returns-clause-makes
returns-clause-makes g c = λ marks s.
    done-answered c.args.self.now c.done_at.new.self marks c.done_at.ensures.sound s c.args.moment.0 c.args.raw c.requires.place c.done_at.ensures.becomes

pub returns-clause-balance : goal.returns-clause-balance
returns-clause-balance g c = done-moves c.args.self.now c.done_at.new.self c.done_at.ensures.sound c.args.moment.0 c.args.raw c.requires.place c.done_at.ensures.becomes

pub returns-clause-draws : goal.returns-clause-draws
returns-clause-draws g c = done-draws c.args.self.now c.done_at.new.self c.args.moment.0 c.args.raw c.requires.place c.done_at.ensures.becomes

pub returns-clause-stays : goal.returns-clause-stays
returns-clause-stays g c = done-stays c.args.self.now c.done_at.new.self c.args.moment.0 c.args.raw c.done_at.ensures.becomes
