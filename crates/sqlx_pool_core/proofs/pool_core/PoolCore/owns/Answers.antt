use Rattle.std.proofs.Common.{rules, ◌∙◌}
use Rattle.sqlx_pool_core.proofs.AnswersAtMarks.{owner-at}
use Rattle.sqlx_pool_core.proofs.pool_core.PoolCore.owns.Goals as goal

pub returns-clause-marks : goal.returns-clause-marks
returns-clause-marks g c = λ marks s. (search rules) ∙ owner-at c.args.self.now.pool marks s (search rules) c.args.client c.args.id
