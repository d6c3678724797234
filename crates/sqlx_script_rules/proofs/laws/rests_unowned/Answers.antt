use Rattle.sqlx_script_rules.proofs.Holds.{rests-script}
use Rattle.sqlx_script_rules.proofs.laws.rests_unowned.Goals as goal

pub returns : goal.returns
returns c = rests-script
