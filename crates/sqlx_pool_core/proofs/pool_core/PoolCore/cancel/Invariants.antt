use Rattle.sqlx_pool_core.proofs.pool_core.PoolCore.cancel.Given as goal

abbrev pub ghosts-uncounted_cancel : goal.ghosts-uncounted_cancel
ghosts-uncounted_cancel g a = record { name = a.blank.name; parts = a.blank.parts }
