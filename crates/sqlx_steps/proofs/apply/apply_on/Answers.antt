use Rattle.sqlx_steps.proofs.StepLemmas.{begun, more, stops, stays, finished, told_stopped, told_done}
use Rattle.sqlx_steps.proofs.apply.apply_on.Goals as goal

pub loop-version-init : goal.loop-version-init
loop-version-init g c = λ n v at within. begun _ n v _ _ _ _ _ (c.version_of-version.ensures n v at.rows at.rests at.holds.tells) at

pub loop-version-preserved : goal.loop-version-preserved
loop-version-preserved g c = λ n v at within.
    let so_far = c.loop-version.invariant n v at within in
    let ran = c.in-All.ensures n so_far.here.rows so_far.here.rests in
    more _ n v _ _ _ _ _ _ _ _ _ c.index-steps-version.result so_far c.loop-version-test.true c.requires c.index-steps-version.is ran.0 ran.1 ran.2

pub returns-in-Refused : goal.returns-in-Refused
returns-in-Refused g c = λ n v at within.
    let so_far = c.loop-version.invariant n v at within in
    let ran = c.in-Refused.ensures n so_far.here.rows so_far.here.rests in
    record {
      at = stays _ n v _ _ _ _ _ _ _ _ so_far ran.0;
      answers = told_stopped _ _ _ c.loop-version-test.true (stops _ n v _ _ _ _ _ _ c.index-steps-version.result so_far c.loop-version-test.true c.requires c.index-steps-version.is ran.1 ran.2);
    }

pub returns-in-Wanting : goal.returns-in-Wanting
returns-in-Wanting g c = λ n v at within.
    let so_far = c.loop-version.invariant n v at within in
    record { at = stays _ n v _ _ _ _ _ _ _ _ so_far (c.in-Wanting.ensures n so_far.here.rows so_far.here.rests); answers = (so_far.above, so_far.below) }

pub returns : goal.returns
returns g c = λ n v at within.
    let so_far = c.loop-version.invariant n v at within in
    record { at = so_far.here; answers = told_done _ _ _ c.loop-version-test.false (finished _ n v _ _ _ _ _ _ so_far c.loop-version-test.false c.requires) }
