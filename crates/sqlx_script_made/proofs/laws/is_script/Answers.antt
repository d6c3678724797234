use Rattle.sqlx_script_made.proofs.Valid.{made_is_script}
use Rattle.sqlx_script_made.proofs.laws.is_script.Goals as goal

pub returns : goal.returns
returns c = made_is_script
