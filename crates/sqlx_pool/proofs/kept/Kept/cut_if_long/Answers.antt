use Rattle.sqlx_pool_history.proofs.Chaining.{may_follow}
use Rattle.sqlx_pool.proofs.kept.Kept.cut_if_long.Goals as goal

pub add-requires : goal.add-requires
add-requires g c = may_follow g.S.Stood.Chained.follows c.self.inside.history (g.S.Stands.state c.self.inside.locked) (g.S.Stands.state c.cut_if_long.new.self) c.self.invariant (g.met.S.PoolSteps.goes_on _ _ _ c.cut_if_long.ensures.becomes)
