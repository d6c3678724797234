use Rattle.std.proofs.Common.{arith}
use Rattle.sqlx_family_steps.proofs.upkeep.reap.Goals as goal

pub reap-requires : goal.reap-requires
reap-requires g c = let r = c.requires.room in let b = c.reap-idle.ensures.balance.paid in omega (arith, r, b)
