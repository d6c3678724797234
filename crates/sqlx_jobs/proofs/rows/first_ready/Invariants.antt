use Rattle.std.proofs.Common.{◌≡◌, None}
use Rattle.sqlx_jobs_rules.specs.Jobs.{Jobs, is_ready, first_of, numbers_from}
use Rattle.sqlx_jobs.specs.Kept.{Tells}
use Rattle.sqlx_jobs.proofs.rows.first_ready.Given as goal

-- none of the jobs up to this one is ready
abbrev pub invariant-loop-before : goal.invariant-loop-before
invariant-loop-before g l = (jobs : Jobs) → Tells (g.V.View.rows l.view) jobs → first_of (is_ready l.now jobs) (numbers_from 1 l.before) ≡ None
