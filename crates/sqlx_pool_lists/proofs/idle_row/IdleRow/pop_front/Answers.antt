use Rattle.std.proofs.Common.{ℕ, ◌≡◌, ◌∙◌, ◌<◌, arith, sym, ap, subst, length, drop}
use Rattle.std.specs.Prelude.{IsSome, ◌↔◌}
use Rattle.sqlx_pool_lists.specs.IdleList.{IdleQueue}
use Rattle.sqlx_pool_lists.proofs.idle_row.IdleRow.pop_front.Goals as goal

pub returns-clause-items : goal.returns-clause-items
returns-clause-items g c = sym (ap (λ (q : IdleQueue _). q.items) c.self.view_is) ∙ c.pop_front.ensures.items

pub returns-clause-variant : goal.returns-clause-variant
returns-clause-variant g c =
    let long : c.self.inside.list.len ≡ length c.self.inside.list.items = omega (arith, c.self.inside.list.ok) in
    subst (λ (n : ℕ). IsSome c.pop_front.result ↔ (0 < n)) (long ∙ ap (λ (q : IdleQueue _). length q.items) c.self.view_is) c.pop_front.ensures.variant

pub returns-clause-rest : goal.returns-clause-rest
returns-clause-rest g c = c.pop_front.ensures.rest ∙ ap (λ (q : IdleQueue _). drop 1 q.items) c.self.view_is

pub returns-clause-capacity : goal.returns-clause-capacity
returns-clause-capacity g c = c.pop_front.ensures.capacity ∙ ap (λ (q : IdleQueue _). q.room) c.self.view_is
