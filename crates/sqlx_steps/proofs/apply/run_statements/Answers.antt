use Rattle.std.proofs.Common.{length, ap, subst, arith}
use Rattle.sqlx_steps.specs.AtWork.{IsWithin}
use Rattle.sqlx_steps_rules.specs.Rules.{all_changed}
use Rattle.sqlx_steps.proofs.Counting.{none_ran, one_ran, all_ran, text_stops}
use Rattle.sqlx_steps.proofs.apply.run_statements.Goals as goal

pub loop-write-init : goal.loop-write-init
loop-write-init g c = record { within = λ n before rows w. (none_ran _ _ n before rows c.statements-statements.result.now w, λ some. some); left = omega arith }

pub returns-in-Refused : goal.returns-in-Refused
returns-in-Refused g c = λ n before rows w.
    let so_far = c.loop-write.invariant.within n before rows w in
    text_stops _ _ _ _ (length c.args.step.now) c.loop-write.write-index c.args.left.now c.loop-write.left _ _ _ _ c.in-Refused.is (λ s. (_, s)) c.loop-write.invariant.left so_far.1
    (omega (arith, c.loop-write-test.true, ap length c.statements-statements.ensures)) (c.write-ran.ensures.text n before _ so_far.0)

pub loop-write-preserved : goal.loop-write-preserved
loop-write-preserved g c = record {
  within = λ n before rows w.
      let so_far = c.loop-write.invariant.within n before rows w in
      let ran = c.in-All.ensures.text n before _ so_far.0 in
      (one_ran _ _ n before rows c.statements-statements.result.now c.loop-write.write-index _ c.loop-write-test.true ran.0, λ some. omega (arith, so_far.1 some, ran.1, c.loop-write.invariant.left));
  left = omega arith;
}

pub returns : goal.returns
returns g c = λ n before rows w.
    let so_far = c.loop-write.invariant.within n before rows w in
    let same = ap length c.statements-statements.ensures in (
      subst (λ ws. IsWithin (g.W.Work.store c.loop-write.work) (g.W.Work.link c.loop-write.work) n before (all_changed ws rows)) c.statements-statements.ensures
          (all_ran _ _ n before rows c.statements-statements.result.now c.loop-write.write-index c.loop-write-test.false so_far.0),
      λ some. omega (arith, so_far.1 some, c.loop-write-test.false, same),
      omega (arith, c.loop-write.invariant.left, c.loop-write-test.false, c.loop-write.auto.write-index-end, same),
    )
