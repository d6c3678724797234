use Rattle.std.proofs.Common.{arith}
use Rattle.sqlx_pool_core.proofs.PollCode.{begun-test}
use Rattle.sqlx_pool_core.proofs.member.Member.begin_test.Goals as goal

pub invariant_of-self : goal.invariant_of-self
invariant_of-self g c =
    let both = begun-test c.args._entitled _ _ c.args.found c.args.moment.0 c.in-Some.idle c.pop_front.new.self.items c.put.new.self c.self.view_is c.self.invariant.0 c.in-Some.ensures.items c.put.ensures c.requires.turn c.requires.permit c.requires.found in
    (both.0, record { to_hold = c.self.invariant.1.to_hold; to_rest = omega (arith, c.pop_front.ensures.capacity, c.self.invariant.1.to_rest) })

pub returns-clause-becomes : goal.returns-clause-becomes
returns-clause-becomes g c =
    let both = begun-test c.args._entitled _ _ c.args.found c.args.moment.0 c.in-Some.idle c.pop_front.new.self.items c.put.new.self c.self.view_is c.self.invariant.0 c.in-Some.ensures.items c.put.ensures c.requires.turn c.requires.permit c.requires.found in
    both.1
