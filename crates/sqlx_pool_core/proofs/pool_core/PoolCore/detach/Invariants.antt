use Rattle.sqlx_pool_core.proofs.pool_core.PoolCore.detach.Given as goal

abbrev pub ghosts-uncounted_detach : goal.ghosts-uncounted_detach
ghosts-uncounted_detach g a = record { name = a.blank.name; parts = a.blank.parts }
