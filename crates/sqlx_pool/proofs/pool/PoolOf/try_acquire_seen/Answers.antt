use Rattle.std.proofs.Common.{◌∙◌, Ok, ap, subst}
use Rattle.sqlx_pool.specs.Calls.{past_alone}
use Rattle.sqlx_pool.specs.Calls as call
use Rattle.sqlx_pool.specs.Seen.{SeesStep}
use Rattle.sqlx_pool.proofs.pool.PoolOf.try_acquire_seen.Goals as goal

pub returns-in-Ok-Some-clause-saw : goal.returns-in-Ok-Some-clause-saw
returns-in-Ok-Some-clause-saw g c =
    let sees = subst (λ s. SeesStep g.S.PoolSteps.stands c.args.me.now c.try_acquire-tried.new.me (g.S.PoolSteps.does (call.LendPast s.name c.args.now c.args.client (past_alone c.try_acquire-tried.result)))) c.deref.ensures c.try_acquire-tried.ensures.saw in
    rw c.new.ensures.lent
    (subst (λ came. SeesStep g.S.PoolSteps.stands c.args.me.now c.try_acquire-tried.new.me (g.S.PoolSteps.does (call.LendPast c.args.self.now.shared.value.name c.args.now c.args.client came)))
    (ap past_alone c.in-Ok-Some.is ∙ ap (λ x. past_alone (Ok x)) c.in-Ok-Some.field-0-is) sees)

pub returns-in-Ok-None-clause-saw : goal.returns-in-Ok-None-clause-saw
returns-in-Ok-None-clause-saw g c =
    let sees = subst (λ s. SeesStep g.S.PoolSteps.stands c.args.me.now c.try_acquire-tried.new.me (g.S.PoolSteps.does (call.LendPast s.name c.args.now c.args.client (past_alone c.try_acquire-tried.result)))) c.deref.ensures c.try_acquire-tried.ensures.saw in
    subst (λ came. SeesStep g.S.PoolSteps.stands c.args.me.now c.try_acquire-tried.new.me (g.S.PoolSteps.does (call.LendPast c.args.self.now.shared.value.name c.args.now c.args.client came)))
    (ap past_alone c.in-Ok-None.is ∙ ap (λ x. past_alone (Ok x)) c.in-Ok-None.field-0-is) sees
