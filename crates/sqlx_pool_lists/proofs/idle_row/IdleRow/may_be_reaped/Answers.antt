use Rattle.std.proofs.Common.{rules}
use Rattle.sqlx_pool_lists.proofs.IdleQueues.{none-beyond}
use Rattle.sqlx_pool_lists.proofs.idle_row.IdleRow.may_be_reaped.Goals as goal

pub returns-else-beyond : goal.returns-else-beyond
returns-else-beyond g c = λ e. none-beyond c.args.options.now c.args.moment.0 c.first_since.result c.self.inside.opened_from c.args.self.now.items c.first_since.ensures (rw (← c.self.view_is) c.self.invariant.opened) (search rules)
