use Rattle.sqlx_pool_core.proofs.pool_core.PoolCore.finish_connect.Given as goal

abbrev pub ghosts-uncounted_finish_connect : goal.ghosts-uncounted_finish_connect
ghosts-uncounted_finish_connect g a = record { name = a.blank.name; parts = a.blank.parts }
