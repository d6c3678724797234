use Rattle.std.proofs.Common.{◌∙◌, ap, refl}
use Rattle.sqlx_pool.specs.Lent.{lent_of}
use Rattle.sqlx_pool.specs.declared.stage.Stage.TheVariants as stage
use Rattle.sqlx_pool.proofs.PollLemmas.{ends_left, goes_from}
use Rattle.sqlx_pool.proofs.acquiring.AcquiringOf.go_further.Goals as goal

pub returns-in-Lent-clause-goes : goal.returns-in-Lent-clause-goes
returns-in-Lent-clause-goes g c =
    goes_from _ _ _ g.S.PoolSteps.stands g.S.PoolSteps.does c.args.self.pool.shared.value.name c.args.self.client c.args.self.ticket g.S.PoolSteps.tells c.args.now c.args.self.pool.shared.value.options (λ conn. lent_of conn.id conn.created conn.raw) _ c.args.begun _ (stage.Lent c.in-Lent.lent c.in-Lent.held) c.args.me.now _ _ c.args.out.now _ _ _ _
    (c.get_idle_tries-tries.ensures ∙ ap (λ s. s.options.idle_tries) c.deref.ensures) c.test-tested.ensures.chain c.in-Lent.ensures.chain (c.new.ensures.lent, refl)

pub returns-in-Pending-clause-goes : goal.returns-in-Pending-clause-goes
returns-in-Pending-clause-goes g c =
    goes_from _ _ _ g.S.PoolSteps.stands g.S.PoolSteps.does c.args.self.pool.shared.value.name c.args.self.client c.args.self.ticket g.S.PoolSteps.tells c.args.now c.args.self.pool.shared.value.options (λ conn. lent_of conn.id conn.created conn.raw) _ c.args.begun _ (stage.Pending c.in-Pending.why) c.args.me.now _ _ c.args.out.now _ _ _ _
    (c.get_idle_tries-tries.ensures ∙ ap (λ s. s.options.idle_tries) c.deref.ensures) c.test-tested.ensures.chain c.in-Pending.ensures.chain (refl, refl)

pub returns-in-Failed-clause-goes : goal.returns-in-Failed-clause-goes
returns-in-Failed-clause-goes g c =
    goes_from _ _ _ g.S.PoolSteps.stands g.S.PoolSteps.does c.args.self.pool.shared.value.name c.args.self.client c.args.self.ticket g.S.PoolSteps.tells c.args.now c.args.self.pool.shared.value.options (λ conn. lent_of conn.id conn.created conn.raw) _ c.args.begun _ (stage.Failed c.in-Failed.error) c.args.me.now _ _ c.args.out.now _ _ _ _
    (c.get_idle_tries-tries.ensures ∙ ap (λ s. s.options.idle_tries) c.deref.ensures) c.test-tested.ensures.chain c.in-Failed.ensures.chain (refl, refl)

pub returns-in-Left-clause-goes : goal.returns-in-Left-clause-goes
returns-in-Left-clause-goes g c =
    goes_from _ _ _ g.S.PoolSteps.stands g.S.PoolSteps.does c.args.self.pool.shared.value.name c.args.self.client c.args.self.ticket g.S.PoolSteps.tells c.args.now c.args.self.pool.shared.value.options (λ conn. lent_of conn.id conn.created conn.raw) _ c.args.begun _ (stage.Left c.in-Left.raw c.in-Left.hard c.in-Left.error) c.args.me.now _ _ c.args.out.now _ _ _ _
    (c.get_idle_tries-tries.ensures ∙ ap (λ s. s.options.idle_tries) c.deref.ensures) c.test-tested.ensures.chain c.in-Left.ensures.chain (ends_left {O = g.row.O.Denot} _ g.X.Outside.does g.X.Outside.depth g.C.Depth.levels (λ conn. lent_of conn.id conn.created conn.raw) c.in-Left.raw c.in-Left.hard c.in-Left.error c.open_wanted-stage.new.out c.close_left.new.out c.close_left.ensures.closes)
