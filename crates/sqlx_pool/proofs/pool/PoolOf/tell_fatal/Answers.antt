use Rattle.std.proofs.Common.{refl, subst}
use Rattle.sqlx_pool_lists.specs.declared.steps.AfterConnect.TheVariants as connected
use Rattle.sqlx_pool_lists.specs.declared.steps.Tried.TheVariants as tried
use Rattle.sqlx_pool.specs.Seen.{SeesStep}
use Rattle.sqlx_pool.specs.Calls as call
use Rattle.sqlx_pool.proofs.pool.PoolOf.tell_fatal.Goals as goal

pub returns-in-Ended-clause-tells : goal.returns-in-Ended-clause-tells
returns-in-Ended-clause-tells g c =
    let sees = subst (λ s. SeesStep g.S.PoolSteps.stands c.args.me.now c.finish_connect-finished.new.me (g.S.PoolSteps.does (call.EndTry s.name c.args.client c.args.ticket c.args.now tried.Fatal c.finish_connect-finished.result.0))) c.deref.ensures c.finish_connect-finished.ensures.saw in
    (connected.Ended, refl, subst (λ after. SeesStep g.S.PoolSteps.stands c.args.me.now c.finish_connect-finished.new.me (g.S.PoolSteps.does (call.EndTry c.args.self.now.shared.value.name c.args.client c.args.ticket c.args.now tried.Fatal after))) c.in-Ended.is sees)
