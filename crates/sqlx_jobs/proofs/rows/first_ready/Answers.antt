use Rattle.std.proofs.Common.{◌<◌, sym, ◌∙◌, arith}
use Rattle.sqlx_jobs_rules.specs.Jobs.{is_ready}
use Rattle.sqlx_jobs.proofs.Numbers.{first-none, first-past, first-found}
use Rattle.sqlx_jobs.proofs.rows.first_ready.Goals as goal

pub loop-before-init : goal.loop-before-init
loop-before-init g c = λ jobs t. first-none (is_ready c.args.now jobs)

pub returns-then-is_ready : goal.returns-then-is_ready
returns-then-is_ready g c = λ jobs t.
    let inside : c.loop-before.before < jobs.added = omega (arith, c.loop-before-test.true, c.min-many.ensures, c.added.ensures jobs t, t.few) in
    sym (first-found (is_ready c.args.now jobs) c.loop-before.before jobs.added inside (c.loop-before.invariant jobs t) (sym (c.is_ready.ensures jobs t) ∙ c.if-is_ready.true))

pub loop-before-preserved : goal.loop-before-preserved
loop-before-preserved g c = λ jobs t. first-past (is_ready c.args.now jobs) c.loop-before.before (c.loop-before.invariant jobs t) (sym (c.is_ready.ensures jobs t) ∙ c.if-is_ready.false)
