use Rattle.std.proofs.Common.{true, false, refl, subst}
use Rattle.sqlx_pool_history.proofs.Showing.{prefix_same}
use Rattle.sqlx_pool.specs.Calls as call
use Rattle.sqlx_pool.specs.Seen.{SeesStep}
use Rattle.sqlx_pool.proofs.pool.PoolOf.end_closed.Goals as goal

pub returns-then-end-clause-ends : goal.returns-then-end-clause-ends
returns-then-end-clause-ends g c =
    let sees = subst (λ ended. SeesStep g.S.PoolSteps.stands c.args.me.now c.end.new.me (g.S.PoolSteps.does (call.CloseLoan c.args.self.now.shared.value.name c.args.client c.args.id ended))) c.if-end.true c.end.ensures in
    (true, (c.end.new.me, sees, c.keep_minimum_seen.ensures.later), (c.keep_minimum_seen.result, refl))

pub returns-else-end-clause-ends : goal.returns-else-end-clause-ends
returns-else-end-clause-ends g c =
    let sees = subst (λ ended. SeesStep g.S.PoolSteps.stands c.args.me.now c.end.new.me (g.S.PoolSteps.does (call.CloseLoan c.args.self.now.shared.value.name c.args.client c.args.id ended))) c.if-end.false c.end.ensures in
    (false, (c.end.new.me, sees, prefix_same c.end.new.me), refl)
