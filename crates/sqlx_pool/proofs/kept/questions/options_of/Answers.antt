use Rattle.std.proofs.Common.{subst, sym}
use Rattle.sqlx_pool.specs.Calls as call
use Rattle.sqlx_pool.proofs.kept.questions.options_of.Goals as goal

pub returns-in-Ok : goal.returns-in-Ok
returns-in-Ok g c = subst (λ o. g.S.PoolSteps.tells (call.Connects o) (g.S.Stands.state c.args.locked.now)) (sym c.in-Ok.ensures) c.connect_options.ensures
