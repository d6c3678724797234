use Rattle.sqlx_pool_core.proofs.pool_core.PoolCore.give.Given as goal

abbrev pub ghosts-uncounted_give : goal.ghosts-uncounted_give
ghosts-uncounted_give g a = record { name = a.blank.name; parts = a.blank.parts }
