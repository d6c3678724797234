use Rattle.std.proofs.Common.{refl}
use Rattle.sqlx_tx.proofs.transaction.Transaction.adopt.Goals as goal

pub returns : goal.returns
returns g c = refl
