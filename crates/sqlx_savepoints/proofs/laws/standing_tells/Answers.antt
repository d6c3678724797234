use Rattle.sqlx_savepoints.proofs.Tells.{tells}
use Rattle.sqlx_savepoints.proofs.laws.standing_tells.Goals as goal

pub returns : goal.returns
returns c = tells
