use Rattle.sqlx_pool_core.proofs.LonePools.{edge-tells}
use Rattle.sqlx_pool_core.proofs.pool_core.PoolCore.edge.Goals as goal

pub returns-clause-tells : goal.returns-clause-tells
returns-clause-tells g c = edge-tells c.self.inside.pool c.self.inside.line _ _ c.self.view_is c.sound.ensures c.self.invariant.lined c.edge.ensures
