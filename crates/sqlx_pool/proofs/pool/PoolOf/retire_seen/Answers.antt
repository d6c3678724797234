use Rattle.std.proofs.Common.{subst, sym}
use Rattle.sqlx_pool.specs.Calls as call
use Rattle.sqlx_pool.specs.Seen.{SeesStep}
use Rattle.sqlx_pool.proofs.pool.PoolOf.retire_seen.Goals as goal

pub returns-clause-saw : goal.returns-clause-saw
returns-clause-saw g c = (
  c.retire-idle.result.items,
  sym c.close_all.ensures.count,
  subst (λ s. SeesStep g.S.PoolSteps.stands c.args.me.now c.retire-idle.new.me (g.S.PoolSteps.does (call.Retire s.name c.retire-idle.result.items))) c.deref.ensures c.retire-idle.ensures,
  c.close_all.ensures.closes,
)
