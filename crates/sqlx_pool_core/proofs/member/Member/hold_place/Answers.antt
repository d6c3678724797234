use Rattle.sqlx_pool_core.proofs.Answered.{place-answered}
use Rattle.sqlx_pool_core.proofs.BalanceLemmas.{place-moves}
use Rattle.sqlx_pool_core.proofs.Drawn.{place-draws, place-stays}
use Rattle.sqlx_pool_core.proofs.member.Member.hold_place.Goals as goal

pub returns-clause-makes : goal.returns-clause-makes
returns-clause-makes g c = λ marks s.
    place-answered c.args.self.now c.hold_if.new.self marks c.hold_if.ensures.sound s c.hold_if.result c.hold_if.ensures.becomes

pub returns-clause-balance : goal.returns-clause-balance
returns-clause-balance g c =
    place-moves c.args.self.now c.hold_if.new.self c.hold_if.ensures.sound c.hold_if.result c.hold_if.ensures.becomes

pub returns-clause-draws : goal.returns-clause-draws
returns-clause-draws g c = place-draws c.args.self.now c.hold_if.new.self c.args.passes c.args.minimum c.hold_if.result c.hold_if.ensures.answer c.hold_if.ensures.becomes

pub returns-clause-stays : goal.returns-clause-stays
returns-clause-stays g c = place-stays c.args.self.now c.hold_if.new.self c.hold_if.result c.hold_if.ensures.becomes
