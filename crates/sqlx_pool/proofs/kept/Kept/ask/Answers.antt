use Rattle.std.proofs.Common.{◌∙◌}
use Rattle.sqlx_pool_history.proofs.Chaining.{may_follow}
use Rattle.sqlx_pool_history.proofs.Showing.{shows_step, steps_value}
use Rattle.sqlx_pool.proofs.SeenLemmas.{ask-refused}
use Rattle.sqlx_pool.proofs.kept.Kept.ask.Goals as goal

pub add-requires : goal.add-requires
add-requires g c = may_follow g.S.Stood.Chained.follows c.show.new.self (g.S.Stands.state c.self.inside.locked) (g.S.Stands.state c.ask-done.new.self) c.show.ensures.last (g.met.S.PoolSteps.goes_on _ _ _ c.ask-done.ensures.does)

pub returns-clause-saw : goal.returns-clause-saw
returns-clause-saw g c = steps_value _ c.show.new.me _ c.show.new.self (g.S.Stands.state c.self.inside.locked) (g.S.Stands.state c.ask-done.new.self) _ c.show.ensures.all c.show.ensures.later c.show.ensures.ends (c.front.ensures ∙ c.add.ensures.added) (c.facts.ensures, (c.facts-2.ensures, c.ask-done.ensures.does))

pub returns-clause-refused : goal.returns-clause-refused
returns-clause-refused g c =
    let did = c.ask-done.ensures in
    ask-refused c.ask-done.result
    (λ e. shows_step _ c.show.new.me _ c.show.new.self (g.S.Stands.state c.ask-done.new.self) _ c.show.ensures.all c.show.ensures.later (c.front.ensures ∙ c.add.ensures.added) (c.facts-2.ensures, did.closed e))
    (λ e. shows_step _ c.show.new.me _ c.show.new.self (g.S.Stands.state c.ask-done.new.self) _ c.show.ensures.all c.show.ensures.later (c.front.ensures ∙ c.add.ensures.added) (c.facts-2.ensures, did.used e))
    did.causes
