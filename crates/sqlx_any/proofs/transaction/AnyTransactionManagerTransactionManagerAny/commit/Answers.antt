use Rattle.sqlx_any.proofs.transaction.AnyTransactionManagerTransactionManagerAny.commit.Goals as goal

pub returns-clause-does : goal.returns-clause-does
returns-clause-does g c = assumption
