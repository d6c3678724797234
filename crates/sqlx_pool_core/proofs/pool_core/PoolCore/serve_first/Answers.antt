use Rattle.std.proofs.Common.{refl}
use Rattle.sqlx_pool_core.proofs.FirstServed.{first-makes, first-balance, first-lone}
use Rattle.sqlx_pool_core.proofs.LonePools.{pool-is}
use Rattle.sqlx_pool_core.proofs.pool_core.PoolCore.serve_first.Goals as goal

pub invariant_of-self : goal.invariant_of-self
invariant_of-self g c =
    first-lone _ _ _ (pool-is c.self.view_is) c.args.client c.args.ticket _ c.in-Some.lent c.in-Some.ensures.sound c.sound.ensures c.self.invariant.alone (c.in-Some.ensures.serves refl) c.in-Some.ensures.first c.in-Some.ensures.becomes
    _ _ c.self.invariant.lined c.leave.ensures.becomes

pub returns-in-Some-clause-makes : goal.returns-in-Some-clause-makes
returns-in-Some-clause-makes g c =
    first-makes _ _ _ (pool-is c.self.view_is) c.args.client c.args.ticket _ c.in-Some.lent c.in-Some.ensures.sound c.sound.ensures c.self.invariant.alone (c.in-Some.ensures.serves refl) c.in-Some.ensures.first c.in-Some.ensures.becomes

pub returns-in-Some-clause-balance : goal.returns-in-Some-clause-balance
returns-in-Some-clause-balance g c =
    first-balance _ _ _ (pool-is c.self.view_is) c.args.client c.args.ticket _ c.in-Some.lent c.in-Some.ensures.sound c.sound.ensures c.self.invariant.alone (c.in-Some.ensures.serves refl) c.in-Some.ensures.first c.in-Some.ensures.becomes
