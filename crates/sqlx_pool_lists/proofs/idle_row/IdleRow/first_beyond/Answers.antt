use Rattle.std.proofs.Common.{rules, tests}
use Rattle.std.proofs.lemmas.Iterator.Consumers.{YieldsList-from_deque}
use Rattle.std.proofs.lemmas.Iterator.Search.{position_from_yields_List}
use Rattle.sqlx_pool_lists.specs.MaintenanceSteps.{is_reaped_at}
use Rattle.sqlx_pool_lists.proofs.IdleQueues.{no-place, first-place}
use Rattle.sqlx_pool_lists.proofs.idle_row.IdleRow.first_beyond.Goals as goal

pub returns-then-is_none-clause-none : goal.returns-then-is_none-clause-none
returns-then-is_none-clause-none g c =
    let place = position_from_yields_List (is_reaped_at c.args.options.now c.args.moment.0) _ _ _ c.position-found.ensures.ran (YieldsList-from_deque c.self.inside.list.items c.iter.ensures.rest) (λ x b q k. search (rules, tests)) in
    rw (← c.self.view_is) (no-place (is_reaped_at c.args.options.now c.args.moment.0) c.self.inside.list.items c.position-found.result place)

pub returns-else-is_none-clause-some : goal.returns-else-is_none-clause-some
returns-else-is_none-clause-some g c =
    let place = position_from_yields_List (is_reaped_at c.args.options.now c.args.moment.0) _ _ _ c.position-found.ensures.ran (YieldsList-from_deque c.self.inside.list.items c.iter.ensures.rest) (λ x b q k. search (rules, tests)) in
    rw (← c.self.view_is) (first-place (is_reaped_at c.args.options.now c.args.moment.0) c.self.inside.list.items c.position-found.result place)
