use Rattle.std.proofs.Common.{ℕ, ◌<◌, subst}
use Rattle.sqlx_pool_core.proofs.KeptLine.{moves-few, moves-let_in}
use Rattle.sqlx_pool_core.proofs.LonePools.{pool-is}
use Rattle.sqlx_pool_core.proofs.pool_core.PoolCore.edge_moves.Goals as goal

pub returns-clause-asked : goal.returns-clause-asked
returns-clause-asked g c = moves-few _ _ _ c.moves.result (pool-is c.self.view_is) c.self.invariant.lined c.moves.ensures.count

pub returns-clause-let_in : goal.returns-clause-let_in
returns-clause-let_in g c = moves-let_in _ _ _ c.moves.result (pool-is c.self.view_is) c.self.invariant.lined c.moves.ensures.count

pub returns-clause-marks : goal.returns-clause-marks
returns-clause-marks g c = λ marks s. subst (λ (n : ℕ). c.moves.result < n) s.ticket_number (returns-clause-asked g c)
