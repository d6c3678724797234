use Rattle.std.proofs.Common.{arith}
use Rattle.sqlx_pool_core.proofs.MaintenanceCode.{sound-shut}
use Rattle.sqlx_pool_core.proofs.member.Member.shut_first.Goals as goal

pub invariant_of-self : goal.invariant_of-self
invariant_of-self g c = (sound-shut _ c.take_all.new.self.items c.self.invariant.0 c.take_all.ensures.items, record { to_hold = c.self.invariant.1.to_hold; to_rest = omega arith })
