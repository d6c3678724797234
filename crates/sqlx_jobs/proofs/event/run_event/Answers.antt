use Rattle.std.proofs.Common.{◌+◌, ◌<◌, ◌^◌, ◌≡◌, ap, subst, sym, ◌∙◌, arith}
use Rattle.sqlx_savepoints.specs.Rows.{Rows, laid}
use Rattle.sqlx_jobs_rules.specs.Jobs.{jobs_of}
use Rattle.sqlx_jobs.specs.Kept.{Tells}
use Rattle.sqlx_jobs.specs.Keeps.{num_works, num_writes}
use Rattle.sqlx_jobs.proofs.Plans.{answered, num_works_few, num_writes_few}
use Rattle.sqlx_jobs.proofs.event.run_event.Goals as goal

pub returns : goal.returns
returns g c = λ n pairs k few.
    let levels : num_works pairs < 2 ^ 32 = omega (arith, few, num_works_few pairs) in
    let puts : num_writes pairs < 2 ^ 31 = omega (arith, few, num_writes_few pairs) in
    let within = c.in_ok-begin.ensures n k.rows (num_works pairs) (num_writes pairs) k.rests levels in
    let seen : laid c.begin.new.link.own c.begin.new.store.rows ≡ k.rows = ap (laid c.begin.new.link.own) within.below ∙ within.sees in
    let tells = subst (λ (rows : Rows). Tells rows (jobs_of pairs)) (sym seen) k.tells in
    answered c.args.lease n pairs c.args.event.now k.rows _ _ _ _ _ k.tells (c.plan_at-plan.ensures (jobs_of pairs) tells) c.met_of.ensures c.requires.works c.has_small_job.ensures
    (c.in_ok-reply.ensures n k.rows (num_works pairs + 1) (num_writes pairs) within puts)
