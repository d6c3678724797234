use Rattle.std.proofs.Common.{rules, ◌∙◌}
use Rattle.sqlx_pool_core.proofs.AnswersAtMarks.{waits-at}
use Rattle.sqlx_pool_core.proofs.pool_core.PoolCore.waits.Goals as goal

pub returns-clause-marks : goal.returns-clause-marks
returns-clause-marks g c = λ marks s. (search rules) ∙ waits-at c.args.self.now.pool marks s c.args.client c.args.ticket
