use Rattle.std.proofs.Common.{◌≡◌, arith, Some, inr, refl, subst}
use Rattle.sqlx_pool_history.proofs.Prefixes.{prefix_trans}
use Rattle.sqlx_pool_history.proofs.Showing.{prefix_same, showed_sooner}
use Rattle.sqlx_pool.specs.Calls as call
use Rattle.sqlx_pool.specs.Reaped.{ReapsSome}
use Rattle.sqlx_pool.specs.Seen.{HasSeen, SeesStep}
use Rattle.sqlx_pool.proofs.ReapLemmas.{reaps_no_more, reaps_none, reaps_one}
use Rattle.sqlx_pool.proofs.pool.PoolOf.reap_all.Goals as goal

pub loop-reaped-init : goal.loop-reaped-init
loop-reaped-init g c = record { reaps = reaps_none _ _ _ _ c.args.now c.args.me.now c.args.out.now; counts = (omega arith, omega arith); later = prefix_same c.args.me.now }

pub loop-reaped-preserved : goal.loop-reaped-preserved
loop-reaped-preserved g c =
    let step = subst (λ s. SeesStep g.S.PoolSteps.stands c.loop-reaped.me c.reap-idle.new.me (g.S.PoolSteps.does (call.Reap s.name c.args.now (Some c.in-Some.idle)))) c.deref-in-loop-reaped.ensures c.in-Some.ensures.saw in
    record {
      reaps = reaps_one g.X.Outside.does g.S.PoolSteps.stands g.S.PoolSteps.does c.args.self.now.shared.value.name c.args.now c.loop-reaped.reaped c.args.me.now c.loop-reaped.me c.reap-idle.new.me c.args.out.now c.loop-reaped.out c.close_by.new.out c.in-Some.idle
          c.loop-reaped.invariant.reaps step c.close_by.ensures.closes;
      counts = (omega (arith, c.loop-reaped.invariant.counts.0, c.close_by.ensures.counts.0), omega (arith, c.loop-reaped.invariant.counts.1, c.close_by.ensures.counts.1));
      later = prefix_trans c.args.me.now c.loop-reaped.me c.reap-idle.new.me c.loop-reaped.invariant.later c.in-Some.ensures.later;
    }

pub returns-in-None-clause-reaps : goal.returns-in-None-clause-reaps
returns-in-None-clause-reaps g c = (
  c.loop-reaped.me,
  reaps_no_more g.X.Outside.does g.S.PoolSteps.stands g.S.PoolSteps.does c.args.self.now.shared.value.name c.args.now c.loop-reaped.reaped c.args.me.now c.loop-reaped.me c.args.out.now c.loop-reaped.out c.loop-reaped.invariant.reaps,
  c.reap-idle.ensures.later,
)

pub returns-in-None-clause-ends : goal.returns-in-None-clause-ends
returns-in-None-clause-ends g c =
    inr (showed_sooner c.args.me.now c.loop-reaped.me c.reap-idle.new.me _ c.loop-reaped.invariant.later
    (subst (λ s. HasSeen g.S.PoolSteps.stands c.loop-reaped.me c.reap-idle.new.me (g.S.PoolSteps.tells (call.NothingToReap s.name c.args.now))) c.deref-in-loop-reaped.ensures (c.in-None.ensures.none refl)))

pub returns-clause-reaps : goal.returns-clause-reaps
returns-clause-reaps g c =
    let all : c.loop-reaped.reaped ≡ c.get_max_connections-max.result = omega (arith, c.loop-reaped-test.false, c.loop-reaped.auto.reaped-end) in (
      c.loop-reaped.me,
      subst (λ n. ReapsSome g.X.Outside.does g.S.PoolSteps.stands g.S.PoolSteps.does c.args.self.now.shared.value.name c.args.now n c.args.me.now c.loop-reaped.me c.args.out.now c.loop-reaped.out) all
          (reaps_no_more g.X.Outside.does g.S.PoolSteps.stands g.S.PoolSteps.does c.args.self.now.shared.value.name c.args.now c.loop-reaped.reaped c.args.me.now c.loop-reaped.me c.args.out.now c.loop-reaped.out c.loop-reaped.invariant.reaps),
      prefix_same c.loop-reaped.me,
    )
