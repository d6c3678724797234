use Rattle.std.proofs.Common.{◌≡◌, ◌-◌, ◌≤◌}
use Rattle.sqlx_pool_lists.specs.Core.{size}
use Rattle.sqlx_pool_core.specs.LonePool.{LeavesEdge}
use Rattle.sqlx_pool_core.proofs.Maintenance.{Before}
use Rattle.sqlx_pool_core.proofs.pool_core.PoolCore.keep_minimum.Given as goal

abbrev pub invariant-places : goal.invariant-places
invariant-places g l = record {
  so_far : Before g.X.Outside.does g.X.Outside.depth l.options l.now.0 l.fn.self.pool l.self.pool l.fn.out l.out l.opened;
  hook : l.hook ≡ l.self.pool.options.after_connect;
  within : l.opened ≤ size l.self.pool;
  max : l._max ≡ l.self.pool.options.max_connections;
  edge : LeavesEdge l.fn.self l.self;
}

abbrev pub decreases-places : goal.decreases-places
decreases-places g l = l.self.pool.options.max_connections - size l.self.pool
