use Rattle.std.proofs.Common.{◌≡◌, ap, sym, subst, inl, arith}
use Rattle.sqlx_family.specs.Pools.{pool_in}
use Rattle.sqlx_family_pool.proofs.StepLemmas.{room-there, written-within, logs-written, few-held, test-flat}
use Rattle.sqlx_pool_lists.specs.PollSteps.{judged, test_marks, tested_at, may_test_next, phase_for}
use Rattle.sqlx_pool_lists.specs.declared.steps.AfterTest.{AfterTest}
use Rattle.sqlx_pool_parts.specs.Answers.{IfTestLends}
use Rattle.sqlx_pool_lists.specs.Balance.{one_if}
use Rattle.sqlx_pool.proofs.LeavesLemmas.{test-leaves}
use Rattle.sqlx_pool.proofs.StepLemmas.{test-lends, test-few}
use Rattle.sqlx_family_pool.proofs.Replaces.{replaces-step}
use Rattle.sqlx_family_pool.proofs.locked.LockedFamily.finish_test.Goals as goal

pub finish_test-after-requires-clause-room : goal.finish_test-after-requires-clause-room
finish_test-after-requires-clause-room g c = room-there c.self.inside.logs.items c.self.invariant c.args.pool (grind arith) c.index_mut-log.result.now c.index_mut-log.ensures.value

pub invariant_of-self : goal.invariant_of-self
invariant_of-self g c =
    written-within c.self.inside.logs.items c.self.invariant c.args.pool (grind arith) c.index_mut-log.result.now c.index_mut-log.ensures.value
    (replaces-step c.args.pool c.self.inside.family (grind arith) c.finish_test-after.ensures.becomes) c.finish_test-after.ensures.makes c.finish_test-after.ensures.balance
    (test-leaves g.C.Depth.levels c.args.client c.args.ticket c.finish_test-after.result (pool_in c.args.pool c.self.inside.family))
    c.self.inside.connect (let lends = test-lends c.args.client c.args.ticket (judged c.args.verdict) c.finish_test-after.result in let same = ap one_if c.lends_tested.ensures in let owned = c.lend_if-held.ensures.owned in let made = c.lend_if-held.ensures.made in record { owned = omega (arith, lends, same, owned); made_is = omega (arith, lends, same, made); few = inl (test-few c.args.client c.args.ticket (judged c.args.verdict) c.finish_test-after.result) }) c.finish_test-after.new.log c.finish_test-after.ensures.marks c.finish_test-after.ensures.capacity

pub returns-clause-marks : goal.returns-clause-marks
returns-clause-marks g c = rw (← c.self.view_is) (λ named. logs-written c.self.inside.logs.items c.self.invariant c.args.pool (grind arith) c.index_mut-log.result.now c.index_mut-log.ensures.value c.finish_test-after.new.log (test_marks c.args.client c.args.ticket (judged c.args.verdict) c.finish_test-after.result) c.finish_test-after.ensures.marks)

pub returns-clause-becomes : goal.returns-clause-becomes
returns-clause-becomes g c = rw (← c.self.view_is) (λ named. c.finish_test-after.ensures.becomes)

pub lend_if-held-requires-clause-part : goal.lend_if-held-requires-clause-part
lend_if-held-requires-clause-part g c = let owned = c.self.invariant.standing.owned in let few = few-held c.self.inside.family c.bounds.ensures in omega (arith, owned, few)

pub returns-clause-flat : goal.returns-clause-flat
returns-clause-flat g c =
    let core = pool_in c.args.pool c.self.inside.family in
    let phase = phase_for c.args.client c.args.ticket core.tickets in
    subst (λ (a : AfterTest _). IfTestLends a (λ lent. g.C.Depth.levels lent.raw ≡ 0)) (sym c.finish_test-after.ensures.answer)
    (test-flat g.C.Depth.levels (tested_at (judged c.args.verdict) phase) core.closed (may_test_next core.options.idle_tries phase) core.idle c.args.verdict c.requires.flat)
