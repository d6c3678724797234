use Rattle.sqlx_pool_log.proofs.Entries.{write_step}
use Rattle.sqlx_pool_log.proofs.written.write_all.Goals as goal

pub loop-at-preserved : goal.loop-at-preserved
loop-at-preserved c = write_step c.args.entries.now c.loop-at.at _ _ _ c.loop-at-test.true c.loop-at.invariant c.in_ok-write.ensures
