use Rattle.std.proofs.Common.{subst}
use Rattle.sqlx_pool_history.proofs.Showing.{prefix_same}
use Rattle.sqlx_pool.specs.Seen.{SeesStep}
use Rattle.sqlx_pool.specs.Calls as call
use Rattle.sqlx_pool.proofs.connection.PoolConnectionOf.close_seen.Goals as goal

pub returns-clause-made : goal.returns-clause-made
returns-clause-made g c =
    (c.end.new.me, subst (λ ended. SeesStep g.S.PoolSteps.stands c.args.me.now c.end.new.me (g.S.PoolSteps.does (call.CloseLoan c.args.self.pool.shared.value.name c.args.self.client c.args.self.id ended))) c.if-end.false c.end.ensures, prefix_same c.end.new.me)
