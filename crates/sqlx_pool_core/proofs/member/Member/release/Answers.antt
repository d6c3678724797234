use Rattle.std.proofs.Common.{arith}
use Rattle.sqlx_pool_core.proofs.GiveCode.{taking}
use Rattle.sqlx_pool_core.proofs.member.Member.release.Goals as goal

pub invariant_of-self : goal.invariant_of-self
invariant_of-self g c = (
  taking _ c.args.id c.take.new.self.items c.take.result c.self.invariant.0 c.take.ensures.some c.take.ensures.none,
  record { to_hold = let h = c.self.invariant.1.to_hold in let k = c.take.ensures.capacity in omega (arith, h, k); to_rest = c.self.invariant.1.to_rest },
)

pub take-requires : goal.take-requires
take-requires g c = let once = c.self.invariant.0.once c.args.id in omega (arith, once)
