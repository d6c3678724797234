use Rattle.sqlx_lines.specs.Words.{first_line, behind_line}
use Rattle.sqlx_jobs.proofs.Standing.{told_line}
use Rattle.sqlx_jobs.proofs.queue.JobQueueResponder.open.Goals as goal

pub new-requires : goal.new-requires
new-requires g c = let told = told_line (behind_line c.args.text.now) _ (first_line c.args.text.now) c.in-Some.line.says c.in-Some.ensures in record { small = told.2; some = told.0 }
