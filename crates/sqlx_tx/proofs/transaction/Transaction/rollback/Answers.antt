use Rattle.sqlx_tx.proofs.transaction.Transaction.rollback.Goals as goal

pub returns-clause-does : goal.returns-clause-does
returns-clause-does g c = rw (g.met.H.Hold.puts, ← c.take_apart-holder.ensures, ← c.conn_mut.ensures.value) assumption
