use Rattle.sqlx_pool_marks.proofs.LogLaws.{lends-once}
use Rattle.sqlx_pool_marks.proofs.laws.safe_logs_lend_once.Goals as goal

pub returns : goal.returns
returns c = lends-once
