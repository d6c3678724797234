use Rattle.sqlx_script_rules.proofs.Holds.{within-script}
use Rattle.sqlx_script_rules.proofs.laws.within_maximum.Goals as goal

pub returns : goal.returns
returns c = within-script
