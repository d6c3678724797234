use Rattle.std.proofs.Common.{ℕ, ◌≡◌, ◌∙◌, ◌<◌, arith, sym, ap, subst, length}
use Rattle.std.specs.Prelude.{IsSome, ◌↔◌}
use Rattle.sqlx_pool_lists.specs.IdleList.{IdleQueue}
use Rattle.sqlx_pool_lists.proofs.IdleQueues.{bounded-front}
use Rattle.sqlx_pool_lists.proofs.idle_row.IdleRow.pop_back.Goals as goal

pub invariant_of-self : goal.invariant_of-self
invariant_of-self g c = bounded-front c.pop_back.result c.self.inside.list.items c.pop_back.new.self.items c.self.inside.opened_from c.self.inside.in_turn c.self.invariant c.pop_back.ensures.items

pub returns-clause-items : goal.returns-clause-items
returns-clause-items g c = sym (ap (λ (q : IdleQueue _). q.items) c.self.view_is) ∙ c.pop_back.ensures.items

pub returns-clause-variant : goal.returns-clause-variant
returns-clause-variant g c =
    let long : c.self.inside.list.len ≡ length c.self.inside.list.items = omega (arith, c.self.inside.list.ok) in
    subst (λ (n : ℕ). IsSome c.pop_back.result ↔ (0 < n)) (long ∙ ap (λ (q : IdleQueue _). length q.items) c.self.view_is) c.pop_back.ensures.variant

pub returns-clause-capacity : goal.returns-clause-capacity
returns-clause-capacity g c = c.pop_back.ensures.capacity ∙ ap (λ (q : IdleQueue _). q.room) c.self.view_is
