use Rattle.sqlx_script_rules.proofs.Holds.{headline-holds}
use Rattle.sqlx_script_rules.proofs.laws.holds_headline.Goals as goal

pub returns : goal.returns
returns c = headline-holds
