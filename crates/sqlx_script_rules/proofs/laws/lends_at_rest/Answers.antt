use Rattle.sqlx_script_rules.proofs.Holds.{lends-script}
use Rattle.sqlx_script_rules.proofs.laws.lends_at_rest.Goals as goal

pub returns : goal.returns
returns c = lends-script
