use Rattle.sqlx_pool_core.proofs.pool_core.PoolCore.minimum_done.Given as goal

abbrev pub ghosts-uncounted_minimum_done : goal.ghosts-uncounted_minimum_done
ghosts-uncounted_minimum_done g a = record { name = a.blank.name; parts = a.blank.parts }
