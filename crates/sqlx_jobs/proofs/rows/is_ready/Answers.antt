use Rattle.std.proofs.Common.{not, sym, ap, ◌∙◌}
use Rattle.sqlx_jobs_rules.specs.Jobs as rules
use Rattle.sqlx_jobs.proofs.Numbers.{ready_held, ready_free}
use Rattle.sqlx_jobs.proofs.rows.is_ready.Goals as goal

pub returns-then-is_held : goal.returns-then-is_held
returns-then-is_held g c = λ jobs t. ready_held (jobs.done c.args.job) (rules.is_held c.args.now jobs c.args.job) (sym (c.is_held.ensures jobs t) ∙ c.if-is_held.true)

pub returns-else-is_held : goal.returns-else-is_held
returns-else-is_held g c = λ jobs t. ap not (c.is_done.ensures jobs t) ∙ ready_free (jobs.done c.args.job) (rules.is_held c.args.now jobs c.args.job) (sym (c.is_held.ensures jobs t) ∙ c.if-is_held.false)
