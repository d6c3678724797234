use Rattle.sqlx_pool_marks.proofs.LogLaws.{keeps-the-maximum}
use Rattle.sqlx_pool_marks.proofs.laws.safe_logs_keep_the_maximum.Goals as goal

pub returns : goal.returns
returns c = keeps-the-maximum
