use Rattle.std.proofs.Common.{rules}
use Rattle.sqlx_pool_core.proofs.pool_core.PoolCore.tell.Goals as goal

pub returns-in-Ended-clause-answer : goal.returns-in-Ended-clause-answer
returns-in-Ended-clause-answer g c = search rules
