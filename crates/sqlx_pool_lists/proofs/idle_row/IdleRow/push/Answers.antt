use Rattle.std.proofs.Common.{◌∙◌, ◌<◌, arith, ◌∷◌, ◌++◌, [], sym, ap, subst, length}
use Rattle.sqlx_pool_lists.specs.IdleList.{IdleQueue}
use Rattle.sqlx_pool_lists.proofs.IdleQueues.{bounded-pushed}
use Rattle.sqlx_pool_lists.proofs.idle_row.IdleRow.push.Goals as goal

pub invariant_of-self : goal.invariant_of-self
invariant_of-self g c = bounded-pushed c.self.inside.list.items c.args.idle c.push_back_reserved.new.self.items c.opened_before-self-inside.result c.stays_in_turn-in_turn.result (rw (← c.self.view_is) at c.opened_before-self-inside.ensures.old) c.opened_before-self-inside.ensures.one_more (rw (← c.self.view_is) at c.stays_in_turn-in_turn.ensures) c.push_back_reserved.ensures.items

pub push_back_reserved-requires : goal.push_back_reserved-requires
push_back_reserved-requires g c =
    let room = subst (λ (q : IdleQueue _). length q.items < q.room) (sym c.self.view_is) c.requires in
    omega (arith, c.self.inside.list.ok, room)

pub returns-clause-items : goal.returns-clause-items
returns-clause-items g c = c.push_back_reserved.ensures.items ∙ ap (λ (q : IdleQueue _). q.items ++ c.args.idle ∷ []) c.self.view_is

pub returns-clause-capacity : goal.returns-clause-capacity
returns-clause-capacity g c = c.push_back_reserved.ensures.capacity ∙ ap (λ (q : IdleQueue _). q.room) c.self.view_is
