use Rattle.sqlx_savepoints.proofs.Linking.{savepoints_read_alike}
use Rattle.sqlx_savepoints.proofs.laws.brackets_are_savepoints.Goals as goal

pub returns : goal.returns
returns c = savepoints_read_alike
