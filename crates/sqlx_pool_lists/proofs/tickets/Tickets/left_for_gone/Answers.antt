use Rattle.std.proofs.Common.{rules, tests, arith, ◌^◌, ◌<◌, ◌∙◌, sym, ap, filter, take, sum_by}
use Rattle.std.specs.Iterator.Adapters.{filter_map_source, filter_map_callee, filter_source, filter_callee, take_source, take_count}
use Rattle.std.specs.VecDeque.Iter.{deque_iter_rest}
use Rattle.std.proofs.lemmas.Iterator.{YieldsList-from_take, YieldsList-from_map}
use Rattle.std.proofs.lemmas.Iterator.Consumers.{YieldsList-from_deque, YieldsList-from_filter_map, YieldsList-from_filter, sum_by_from_yields_List, fits_by_from_yields_list}
use Rattle.sqlx_pool_lists.specs.Core.{gone, has_gone}
use Rattle.sqlx_pool_lists.specs.Balance.{left_to_test}
use Rattle.sqlx_pool_places.specs.Rising.{thing_in, things_at}
use Rattle.sqlx_pool_lists.proofs.Counting.{few-left}
use Rattle.sqlx_pool_lists.proofs.TicketPlaces.{all-gone, none-gone, left-parts}
use Rattle.sqlx_pool_lists.proofs.tickets.Tickets.left_for_gone.Goals as goal

-- there are at most 2 ^ 57 tickets, and sixteen tests are left for each at most
pub sum-requires-clause-fits : goal.sum-requires-clause-fits
sum-requires-clause-fits c =
    let items = c.self.inside.places.items in
    let xs = things_at items in
    let n = c.args.tries in
    let at = c.map.ensures.source in
    let out = ap take_source at ∙ c.take.ensures.source in
    let from = ap filter_source out ∙ c.filter.ensures.source in
    let few = few-left n xs c.requires in
    let below : sum_by (left_to_test n) (take (gone xs) (filter has_gone xs)) < 2 ^ 64 =
    omega (arith, ap (sum_by (left_to_test n)) (all-gone xs), left-parts n xs, few, c.self.invariant.counted_right, c.self.invariant.few) in
    fits_by_from_yields_list (left_to_test n) (take (gone xs) (filter has_gone xs)) c.map.result (2 ^ 64)
    (YieldsList-from_map _ (left_to_test n)
    (YieldsList-from_take (gone xs)
    (YieldsList-from_filter _ has_gone
    (YieldsList-from_filter_map _ thing_in (YieldsList-from_deque items (ap deque_iter_rest (ap filter_map_source from ∙ c.filter_map.ensures.source) ∙ c.iter.ensures.rest)) (ap filter_map_callee from ∙ c.filter_map.ensures.closure) (λ x r q k. search (rules, tests)))
    (ap filter_callee out ∙ c.filter.ensures.closure) (λ x b q k. search (rules, tests)))
    (ap take_count at ∙ c.take.ensures.count ∙ c.self.invariant.out_right))
    c.map.ensures.closure (λ x r q k. search (rules, tests))) below

pub returns-clause-left : goal.returns-clause-left
returns-clause-left c =
    let items = c.self.inside.places.items in
    let xs = things_at items in
    let n = c.args.tries in
    let at = c.map.ensures.source in
    let out = ap take_source at ∙ c.take.ensures.source in
    let from = ap filter_source out ∙ c.filter.ensures.source in
    rw (← c.self.view_is) (sum_by_from_yields_List (left_to_test n) (take (gone xs) (filter has_gone xs)) c.map.result c.sum.result c.sum.ensures.ran
    (YieldsList-from_map _ (left_to_test n)
    (YieldsList-from_take (gone xs)
    (YieldsList-from_filter _ has_gone
    (YieldsList-from_filter_map _ thing_in (YieldsList-from_deque items (ap deque_iter_rest (ap filter_map_source from ∙ c.filter_map.ensures.source) ∙ c.iter.ensures.rest)) (ap filter_map_callee from ∙ c.filter_map.ensures.closure) (λ x r q k. search (rules, tests)))
    (ap filter_callee out ∙ c.filter.ensures.closure) (λ x b q k. search (rules, tests)))
    (ap take_count at ∙ c.take.ensures.count ∙ c.self.invariant.out_right))
    c.map.ensures.closure (λ x r q k. search (rules, tests)))
    ∙ ap (sum_by (left_to_test n)) (all-gone xs))

pub returns-clause-few : goal.returns-clause-few
returns-clause-few c = rw (← c.self.view_is) (omega (arith, c.self.invariant.counted_right, c.self.invariant.few))

pub returns-then-self-eq0-clause-left : goal.returns-then-self-eq0-clause-left
returns-then-self-eq0-clause-left c =
    let xs = things_at c.self.inside.places.items in
    rw (← c.self.view_is) (ap (sum_by (left_to_test c.args.tries)) (sym (none-gone xs (omega (arith, c.if-self-eq0.true, c.self.invariant.out_right)))))
