use Rattle.sqlx_pool.proofs.kept.Kept.lend.Goals as goal

pub returns-clause-lends : goal.returns-clause-lends
returns-clause-lends g c = (c.finish_test-after.result.0, c.after_test.ensures.is, c.finish_test-after.ensures.saw)
