use Rattle.sqlx_tx.proofs.transaction.Transaction.keep_open.Goals as goal

pub returns : goal.returns
returns g c = assumption
