use Rattle.sqlx_text.proofs.statement_cache.StatementCache.insert.Goals as goal

pub returns-clause-ok : goal.returns-clause-ok
returns-clause-ok g c = c.add.ensures.ok

pub returns-clause-handed_back : goal.returns-clause-handed_back
returns-clause-handed_back g c = c.add.ensures.handed_back

pub returns-clause-err : goal.returns-clause-err
returns-clause-err g c = c.add.ensures.err

pub returns-clause-value_returned : goal.returns-clause-value_returned
returns-clause-value_returned g c = c.add.ensures.value_returned
