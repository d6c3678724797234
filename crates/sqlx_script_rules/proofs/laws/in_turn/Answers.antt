use Rattle.sqlx_script_rules.proofs.Holds.{line-script}
use Rattle.sqlx_script_rules.proofs.laws.in_turn.Goals as goal

pub returns : goal.returns
returns c = line-script
