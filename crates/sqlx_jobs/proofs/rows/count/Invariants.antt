use Rattle.std.proofs.Common.{◌≤◌}
use Rattle.sqlx_jobs_rules.specs.Jobs.{Jobs}
use Rattle.sqlx_jobs.specs.Kept.{Tells, AreCounted}
use Rattle.sqlx_jobs.proofs.rows.count.Given as goal

-- the jobs up to this one are counted
abbrev pub invariant-loop-before : goal.invariant-loop-before
invariant-loop-before g l = record {
  told : (jobs : Jobs) → Tells (g.V.View.rows l.view) jobs → AreCounted l.now jobs l.before l.ready l.held l.done;
  ready : l.ready ≤ l.before;
  held : l.held ≤ l.before;
  done : l.done ≤ l.before;
}
