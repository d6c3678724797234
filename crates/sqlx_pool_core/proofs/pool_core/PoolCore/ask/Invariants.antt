use Rattle.sqlx_pool_core.proofs.pool_core.PoolCore.ask.Given as goal

abbrev pub ghosts-uncounted_ask : goal.ghosts-uncounted_ask
ghosts-uncounted_ask g a = record { name = a.blank.name; parts = a.blank.parts }
