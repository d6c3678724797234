use Rattle.sqlx_pool_core.proofs.FinishCode.{testing-next}
use Rattle.std.proofs.Common.{arith, refl}
use Rattle.sqlx_pool_core.proofs.member.Member.test_next.Goals as goal

pub invariant_of-self : goal.invariant_of-self
invariant_of-self g c =
    let both = testing-next _ _ c.args.found _ c.in-Some.idle c.pop_front.new.self.items c.put.new.self c.self.view_is c.self.invariant.0 c.in-Some.ensures.items c.requires.out (rw c.requires.before refl) c.put.ensures c.requires.found in
    (both.0, record { to_hold = c.self.invariant.1.to_hold; to_rest = omega (arith, c.pop_front.ensures.capacity, c.self.invariant.1.to_rest) })

pub returns-clause-becomes : goal.returns-clause-becomes
returns-clause-becomes g c =
    let both = testing-next _ _ c.args.found _ c.in-Some.idle c.pop_front.new.self.items c.put.new.self c.self.view_is c.self.invariant.0 c.in-Some.ensures.items c.requires.out (rw c.requires.before refl) c.put.ensures c.requires.found in
    both.1
