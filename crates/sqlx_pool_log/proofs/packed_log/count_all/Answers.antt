use Rattle.sqlx_pool_log.proofs.Entries.{count_step}
use Rattle.sqlx_pool_log.proofs.packed_log.count_all.Goals as goal

pub loop-at-preserved : goal.loop-at-preserved
loop-at-preserved c = count_step c.args.entries.now c.loop-at.at _ _ _ c.loop-at-test.true c.loop-at.invariant c.count-marks.ensures.count
