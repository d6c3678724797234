use Rattle.std.proofs.Common.{arith, ap, ◌∙◌}
use Rattle.std.specs.VecDeque.Iter.{deque_iter_rest}
use Rattle.std.proofs.lemmas.Iterator.Consumers.{YieldsList-from_deque, YieldsList-end}
use Rattle.sqlx_pool_lists.proofs.IdleQueues.{all-each, all-map, all-push}
use Rattle.sqlx_pool_lists.proofs.idle_row.first_opening.Goals as goal

pub loop-idle-preserved : goal.loop-idle-preserved
loop-idle-preserved g c = rw c.min-first.ensures (all-push _ c.loop-idle.yielded c.in-Some.idle (all-each (λ b k. omega (arith, k)) c.loop-idle.yielded c.loop-idle.invariant) (omega arith))

pub returns : goal.returns
returns g c =
    let end = YieldsList-end (YieldsList-from_deque c.args.list.now.items (ap deque_iter_rest c.into_iter-idle-iterator.ensures.into_iter_gives ∙ c.iter-idle-items.ensures.rest)) c.loop-idle.yielded _ c.loop-idle.yielded_by _ _ c.in-None.is c.next.ensures.steps in
    rw (← end.0) (all-map _ (λ b. b.now) c.loop-idle.yielded c.loop-idle.invariant)
