use Rattle.std.proofs.Common.{arith}
use Rattle.sqlx_pool_log.proofs.Entries.{lent_step}
use Rattle.sqlx_pool_log.proofs.packed_log.count_lent.Goals as goal

pub loop-at-preserved : goal.loop-at-preserved
loop-at-preserved c = (lent_step c.args.entries.now c.loop-at.at _ _ _ c.loop-at-test.true c.loop-at.invariant.0 c.lends-loans.ensures.count, let few = c.lends-loans.ensures.few in let so_far = c.loop-at.invariant.1 in omega (arith, few, so_far))
