use Rattle.sqlx_pool_marks.proofs.LogLaws.{keeps-the-line}
use Rattle.sqlx_pool_marks.proofs.laws.ordered_logs_keep_the_line.Goals as goal

pub returns : goal.returns
returns c = keeps-the-line
