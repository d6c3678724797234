use Rattle.std.proofs.Common.{ap, refl, subst, sym}
use Rattle.sqlx_pool.specs.Lent.{lent_of}
use Rattle.sqlx_pool.specs.PollChain.{Ends, alone}
use Rattle.sqlx_pool.specs.Stage.{wants_test, wants_connect}
use Rattle.sqlx_pool.specs.declared.acquiring.Polling.TheVariants as polling
use Rattle.sqlx_pool.proofs.PollLemmas.{goes_from, opens_none, tests_none}
use Rattle.sqlx_pool.proofs.acquiring.AcquiringOf.go_on.Goals as goal

pub returns-in-Lent-clause-goes : goal.returns-in-Lent-clause-goes
returns-in-Lent-clause-goes g c =
    goes_from _ _ _ g.S.PoolSteps.stands g.S.PoolSteps.does c.args.self.pool.shared.value.name c.args.self.client c.args.self.ticket g.S.PoolSteps.tells c.args.now c.args.self.pool.shared.value.options (λ conn. lent_of conn.id conn.created conn.raw) _ c.args.begun c.args.begun c.args.begun c.args.me.now _ _ c.args.out.now _ _ _ _
    refl
    (tests_none _ _ _ g.S.PoolSteps.stands g.S.PoolSteps.does c.args.self.pool.shared.value.name c.args.self.client c.args.self.ticket c.args.self.pool.shared.value.options _ c.args.begun c.args.me.now c.args.out.now (ap (λ s. wants_test s) c.in-Lent.is))
    (opens_none _ _ _ g.S.PoolSteps.stands g.S.PoolSteps.does c.args.self.pool.shared.value.name c.args.self.client c.args.self.ticket g.S.PoolSteps.tells c.args.now c.args.self.pool.shared.value.options c.args.begun c.args.me.now c.args.out.now (ap (λ s. wants_connect s) c.in-Lent.is))
    (subst (λ s. Ends g.X.Outside.does g.X.Outside.depth g.C.Depth.levels (λ conn. lent_of conn.id conn.created conn.raw) (alone s) (polling.Ready c.new.result) c.args.out.now c.args.out.now) (sym c.in-Lent.is) (c.new.ensures.lent, refl))
