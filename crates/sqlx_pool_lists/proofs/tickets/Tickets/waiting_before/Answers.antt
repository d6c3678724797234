use Rattle.std.proofs.Common.{rules, tests, ◌∙◌, ap}
use Rattle.std.specs.Iterator.Adapters.{filter_map_source, filter_map_callee}
use Rattle.std.specs.VecDeque.Iter.{deque_iter_rest}
use Rattle.std.proofs.lemmas.Iterator.Consumers.{YieldsList-from_deque, YieldsList-from_filter_map, YieldsList-from_filter, count_from_yields_List}
use Rattle.std.proofs.lemmas.List.Sums.{length-filter}
use Rattle.sqlx_pool_lists.specs.Shared.{waits_before}
use Rattle.sqlx_pool_places.specs.Rising.{thing_in, things_at}
use Rattle.sqlx_pool_lists.proofs.tickets.Tickets.waiting_before.Goals as goal

pub returns : goal.returns
returns c =
    let items = c.self.inside.places.items in
    let at = c.filter.ensures.source in
    rw (← c.self.view_is) (count_from_yields_List _ _ c.count.ensures.ran
    (YieldsList-from_filter _ (waits_before c.args.number)
    (YieldsList-from_filter_map _ thing_in (YieldsList-from_deque items (ap deque_iter_rest (ap filter_map_source at ∙ c.filter_map.ensures.source) ∙ c.iter.ensures.rest)) (ap filter_map_callee at ∙ c.filter_map.ensures.closure) (λ x r q k. search (rules, tests)))
    c.filter.ensures.closure (λ x b q k. search (rules, tests)))
    ∙ length-filter (waits_before c.args.number) (things_at items))
