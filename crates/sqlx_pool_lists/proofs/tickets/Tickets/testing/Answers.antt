use Rattle.std.proofs.Common.{rules, tests, arith, ◌∙◌, sym, ap, filter, length}
use Rattle.std.specs.Iterator.Adapters.{filter_map_source, filter_map_callee, filter_source, filter_callee, take_source, take_count}
use Rattle.std.specs.VecDeque.Iter.{deque_iter_rest}
use Rattle.std.proofs.lemmas.Iterator.{YieldsList-from_take}
use Rattle.std.proofs.lemmas.Iterator.Consumers.{YieldsList-from_deque, YieldsList-from_filter_map, YieldsList-from_filter, count_from_yields_List}
use Rattle.sqlx_pool_lists.specs.Core.{gone, has_gone}
use Rattle.sqlx_pool_lists.specs.Balance.{is_testing}
use Rattle.sqlx_pool_places.specs.Rising.{thing_in, things_at}
use Rattle.sqlx_pool_lists.proofs.TicketPlaces.{all-gone, none-gone, testing-gone}
use Rattle.sqlx_pool_lists.proofs.tickets.Tickets.testing.Goals as goal

pub returns : goal.returns
returns c =
    let items = c.self.inside.places.items in
    let xs = things_at items in
    let at = c.filter-2.ensures.source in
    let out = ap take_source at ∙ c.take.ensures.source in
    let from = ap filter_source out ∙ c.filter.ensures.source in
    rw (← c.self.view_is) (count_from_yields_List _ _ c.count.ensures.ran
    (YieldsList-from_filter _ is_testing
    (YieldsList-from_take (gone xs)
    (YieldsList-from_filter _ has_gone
    (YieldsList-from_filter_map _ thing_in (YieldsList-from_deque items (ap deque_iter_rest (ap filter_map_source from ∙ c.filter_map.ensures.source) ∙ c.iter.ensures.rest)) (ap filter_map_callee from ∙ c.filter_map.ensures.closure) (λ x r q k. search (rules, tests)))
    (ap filter_callee out ∙ c.filter.ensures.closure) (λ x b q k. search (rules, tests)))
    (ap take_count at ∙ c.take.ensures.count ∙ c.self.invariant.out_right))
    c.filter-2.ensures.closure (λ x b q k. search (rules, tests)))
    ∙ ap (λ l. length (filter is_testing l)) (all-gone xs) ∙ testing-gone xs)

-- none is under test where none has left the line
pub returns-then-self-eq0 : goal.returns-then-self-eq0
returns-then-self-eq0 c =
    let xs = things_at c.self.inside.places.items in
    rw (← c.self.view_is) (ap (λ l. length (filter is_testing l)) (sym (none-gone xs (omega (arith, c.if-self-eq0.true, c.self.invariant.out_right)))) ∙ testing-gone xs)
