use Rattle.sqlx_pool_core.proofs.pool_core.PoolCore.end.Given as goal

abbrev pub ghosts-uncounted_end : goal.ghosts-uncounted_end
ghosts-uncounted_end g a = record { name = a.blank.name; parts = a.blank.parts }
