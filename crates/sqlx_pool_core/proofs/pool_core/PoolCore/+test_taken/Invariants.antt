use Rattle.std.proofs.Common.{length}
use Rattle.sqlx_pool_core.proofs.pool_core.PoolCore.+test_taken.Given as goal

abbrev pub decreases-test_taken : goal.decreases-test_taken
decreases-test_taken g l = length l.self.now.pool.idle
