use Rattle.std.proofs.Common.{refl}
use Rattle.sqlx_pool_core.proofs.Known.{rising_below}
use Rattle.sqlx_pool_core.proofs.AskSoundness.{sound-asked}
use Rattle.sqlx_pool_core.proofs.AskCode.{asking-makes}
use Rattle.sqlx_pool_core.proofs.Drawn.{asking-draws}
use Rattle.sqlx_pool_core.proofs.BalanceLemmas.{asking-moves}
use Rattle.sqlx_pool_core.proofs.member.Member.ask_until.Goals as goal

pub push-requires-clause-last : goal.push-requires-clause-last
push-requires-clause-last g c = rising_below 1 c.self.inside.tickets c.self.inside.next_ticket c.self.invariant.0.rising

pub invariant_of-self-2 : goal.invariant_of-self-2
invariant_of-self-2 g c =
    (rw c.in-Ok.ensures.ok (sound-asked _ _ c.args.moment.0 c.self.invariant.0 refl refl (rw (← c.self.view_is) at c.requires.few)), c.self.invariant.1)

pub returns-clause-makes : goal.returns-clause-makes
returns-clause-makes g c = λ marks s. asking-makes _ _ c.args.client c.args.deadline c.args.moment.0 c.push.new.self marks c.self.view_is c.self.invariant.0 c.in-Ok.ensures.ok c.requires.open s

pub returns-clause-balance : goal.returns-clause-balance
returns-clause-balance g c =
    asking-moves _ _ c.args.client c.args.deadline c.args.moment.0 c.push.new.self c.self.invariant.0.tries c.self.view_is c.in-Ok.ensures.ok

pub returns-clause-draws : goal.returns-clause-draws
returns-clause-draws g c = asking-draws _ _ c.args.client c.args.deadline c.args.moment.0 c.push.new.self c.self.view_is c.in-Ok.ensures.ok
