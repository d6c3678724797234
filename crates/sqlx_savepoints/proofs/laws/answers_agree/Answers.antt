use Rattle.sqlx_savepoints.proofs.Answering.{answers_read_alike}
use Rattle.sqlx_savepoints.proofs.laws.answers_agree.Goals as goal

pub returns : goal.returns
returns c = answers_read_alike
