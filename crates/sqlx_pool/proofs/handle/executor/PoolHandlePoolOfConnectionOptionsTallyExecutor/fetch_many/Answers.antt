use Rattle.sqlx_pool.proofs.HandleLemmas.{taken_ran}
use Rattle.sqlx_pool.proofs.handle.executor.PoolHandlePoolOfConnectionOptionsTallyExecutor.fetch_many.Goals as goal

pub returns-in-Ok-clause-steps : goal.returns-in-Ok-clause-steps
returns-in-Ok-clause-steps g c = taken_ran g.DB.Connection.Executor.runs _ _ _ _ _ _ _ _ _ _ _ c.in-Ok.ensures.handed c.in-Ok.ensures.arguments c.run.ensures.ran
