use Rattle.sqlx_script_rules.proofs.Holds.{lends_once-script}
use Rattle.sqlx_script_rules.proofs.laws.no_two_owners.Goals as goal

pub returns : goal.returns
returns c = lends_once-script
