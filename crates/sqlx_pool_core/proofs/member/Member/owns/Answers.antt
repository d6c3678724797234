use Rattle.std.proofs.Common.{arith}
use Rattle.sqlx_pool_core.proofs.member.Member.owns.Goals as goal

pub loan_for-requires : goal.loan_for-requires
loan_for-requires g c = let once = c.self.invariant.0.once c.args.id in omega (arith, once)
