use Rattle.sqlx_pool_core.proofs.pool_core.PoolCore.start.Given as goal

abbrev pub ghosts-uncounted_start : goal.ghosts-uncounted_start
ghosts-uncounted_start g a = record { name = a.blank.name; parts = a.blank.parts }
