use Rattle.sqlx_transfer_rules.proofs.ScriptTotals.{closes_with_the_opening}
use Rattle.sqlx_transfer_rules.proofs.laws.closes_with_the_opening.Goals as goal

pub returns : goal.returns
returns c = closes_with_the_opening
