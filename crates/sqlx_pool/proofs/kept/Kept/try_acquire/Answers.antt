use Rattle.std.proofs.Common.{◌∙◌}
use Rattle.sqlx_pool_history.proofs.Chaining.{may_follow}
use Rattle.sqlx_pool_history.proofs.Showing.{shows_step, steps_value}
use Rattle.sqlx_pool.proofs.SeenLemmas.{try-refused}
use Rattle.sqlx_pool.proofs.kept.Kept.try_acquire.Goals as goal

pub add-requires : goal.add-requires
add-requires g c = may_follow g.S.Stood.Chained.follows c.show.new.self (g.S.Stands.state c.self.inside.locked) (g.S.Stands.state c.try_acquire-done.new.self) c.show.ensures.last (g.met.S.PoolSteps.goes_on _ _ _ c.try_acquire-done.ensures.does)

pub returns-clause-saw : goal.returns-clause-saw
returns-clause-saw g c = steps_value _ c.show.new.me _ c.show.new.self (g.S.Stands.state c.self.inside.locked) (g.S.Stands.state c.try_acquire-done.new.self) _ c.show.ensures.all c.show.ensures.later c.show.ensures.ends (c.front.ensures ∙ c.add.ensures.added) (c.facts.ensures, (c.facts-2.ensures, c.try_acquire-done.ensures.does))

pub returns-clause-refused : goal.returns-clause-refused
returns-clause-refused g c =
    let did = c.try_acquire-done.ensures in
    try-refused c.try_acquire-done.result
    (λ e. shows_step _ c.show.new.me _ c.show.new.self (g.S.Stands.state c.try_acquire-done.new.self) _ c.show.ensures.all c.show.ensures.later (c.front.ensures ∙ c.add.ensures.added) (c.facts-2.ensures, did.used e))
    did.causes
