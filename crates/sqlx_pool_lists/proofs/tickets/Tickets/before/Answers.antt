use Rattle.std.proofs.Common.{rules, tests, ◌∙◌, ap}
use Rattle.std.specs.List.{take_while}
use Rattle.std.specs.Iterator.Adapters.{filter_map_source, filter_map_callee, take_while_source, take_while_callee, take_while_done}
use Rattle.std.specs.VecDeque.Iter.{deque_iter_rest}
use Rattle.std.proofs.lemmas.Iterator.Consumers.{YieldsList-from_deque, YieldsList-from_filter_map, YieldsList-from_filter, count_from_yields_List}
use Rattle.std.proofs.lemmas.Iterator.Search.{YieldsList-from_take_while}
use Rattle.std.proofs.lemmas.List.Sums.{length-filter}
use Rattle.sqlx_pool_lists.specs.Core.{waits}
use Rattle.sqlx_pool_lists.specs.CoreTurn.{is_another}
use Rattle.sqlx_pool_places.specs.Rising.{thing_in, things_at}
use Rattle.sqlx_pool_lists.proofs.tickets.Tickets.before.Goals as goal

pub returns : goal.returns
returns c =
    let items = c.self.inside.places.items in
    let front = take_while (is_another c.args.number) (things_at items) in
    let at = c.filter.ensures.source in
    let from = ap take_while_source at ∙ c.take_while.ensures.source in
    rw (← c.self.view_is) (count_from_yields_List _ _ c.count.ensures.ran
    (YieldsList-from_filter _ waits
    (YieldsList-from_take_while _ (is_another c.args.number)
    (YieldsList-from_filter_map _ thing_in (YieldsList-from_deque items (ap deque_iter_rest (ap filter_map_source from ∙ c.filter_map.ensures.source) ∙ c.iter.ensures.rest)) (ap filter_map_callee from ∙ c.filter_map.ensures.closure) (λ x r q k. search (rules, tests)))
    (ap take_while_callee at ∙ c.take_while.ensures.closure) (ap take_while_done at ∙ c.take_while.ensures.done) (λ x b q k. search (rules, tests)))
    c.filter.ensures.closure (λ x b q k. search (rules, tests)))
    ∙ length-filter waits front)
