use Rattle.sqlx_pool.proofs.pool.PoolOf.+test.Given as goal

abbrev pub decreases-test : goal.decreases-test
decreases-test g l = l.left
