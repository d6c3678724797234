use Rattle.sqlx_pool.proofs.SeenLemmas.{log-copied}
use Rattle.sqlx_pool.proofs.lone.LockedArcGlobalPoolSteps.read_log.Goals as goal

pub returns-clause-tells : goal.returns-clause-tells
returns-clause-tells g c = log-copied c.args.self.now c.read_log.result c.read_log.ensures.start c.read_log.ensures.before c.read_log.ensures.marks
