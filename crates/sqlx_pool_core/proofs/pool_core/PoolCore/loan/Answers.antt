use Rattle.sqlx_pool_core.proofs.LonePools.{view-tells}
use Rattle.sqlx_pool_core.proofs.pool_core.PoolCore.loan.Goals as goal

pub returns-clause-tells : goal.returns-clause-tells
returns-clause-tells g c = view-tells c.self.inside.pool c.self.inside.line _ c.self.view_is c.sound.ensures c.self.invariant.lined
