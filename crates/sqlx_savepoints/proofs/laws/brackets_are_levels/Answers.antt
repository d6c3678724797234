use Rattle.sqlx_savepoints.proofs.Readers.{levels_read_alike}
use Rattle.sqlx_savepoints.proofs.laws.brackets_are_levels.Goals as goal

pub returns : goal.returns
returns c = levels_read_alike
