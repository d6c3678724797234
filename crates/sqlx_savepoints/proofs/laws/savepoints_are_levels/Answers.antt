use Rattle.sqlx_savepoints.proofs.SavepointTheorem.{levels_agree}
use Rattle.sqlx_savepoints.proofs.laws.savepoints_are_levels.Goals as goal

pub returns : goal.returns
returns c = levels_agree
