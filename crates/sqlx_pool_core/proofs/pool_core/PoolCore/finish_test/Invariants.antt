use Rattle.sqlx_pool_core.proofs.pool_core.PoolCore.finish_test.Given as goal

abbrev pub ghosts-uncounted_finish_test : goal.ghosts-uncounted_finish_test
ghosts-uncounted_finish_test g a = record { name = a.blank.name; parts = a.blank.parts }
