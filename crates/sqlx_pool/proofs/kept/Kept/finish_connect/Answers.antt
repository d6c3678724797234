use Rattle.std.proofs.Common.{◌∙◌}
use Rattle.sqlx_pool_history.proofs.Chaining.{may_follow}
use Rattle.sqlx_pool_history.proofs.Showing.{steps_value}
use Rattle.sqlx_pool.proofs.kept.Kept.finish_connect.Goals as goal

pub add-requires : goal.add-requires
add-requires g c = may_follow g.S.Stood.Chained.follows c.show.new.self (g.S.Stands.state c.self.inside.locked) (g.S.Stands.state c.finish_connect-done.new.self) c.show.ensures.last (g.met.S.PoolSteps.goes_on _ _ _ c.finish_connect-done.ensures.does)

pub returns-clause-saw : goal.returns-clause-saw
returns-clause-saw g c = steps_value _ c.show.new.me _ c.show.new.self (g.S.Stands.state c.self.inside.locked) (g.S.Stands.state c.finish_connect-done.new.self) _ c.show.ensures.all c.show.ensures.later c.show.ensures.ends (c.front.ensures ∙ c.add.ensures.added) (c.facts.ensures, (c.facts-2.ensures, c.finish_connect-done.ensures.does))
