use Rattle.std.proofs.Common.{subst, sym}
use Rattle.sqlx_pool.specs.Calls as call
use Rattle.sqlx_pool.specs.Seen.{SeesStep}
use Rattle.sqlx_pool.proofs.pool.PoolOf.close_seen.Goals as goal

pub returns-clause-saw : goal.returns-clause-saw
returns-clause-saw g c = (
  c.close-idle.result.items,
  sym c.close_all.ensures.count,
  subst (λ s. SeesStep g.S.PoolSteps.stands c.args.me.now c.close-idle.new.me (g.S.PoolSteps.does (call.Close s.name c.close-idle.result.items))) c.deref.ensures c.close-idle.ensures,
  c.close_all.ensures.closes,
)
