use Rattle.sqlx_pool_lists.proofs.IdleQueues.{by-last}
use Rattle.std.proofs.Common.{rules}
use Rattle.sqlx_pool_lists.proofs.idle_row.IdleRow.last_since.Goals as goal

pub returns-in-Some : goal.returns-in-Some
returns-in-Some g c = λ t. by-last c.args.self.now.items c.in-Some.last.now t (search rules)
