use Rattle.sqlx_transfer_rules.proofs.Totals.{total_stays}
use Rattle.sqlx_transfer_rules.proofs.laws.total_stays.Goals as goal

pub returns : goal.returns
returns c = total_stays
