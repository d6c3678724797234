use Rattle.sqlx_jobs_rules.proofs.Moments.{nothing}
use Rattle.sqlx_jobs_rules.proofs.reading.read_event.Goals as goal

pub returns-in_err-line : goal.returns-in_err-line
returns-in_err-line c = rw c.from_residual.ensures (nothing _ _ c.args.last c.in_err-line.ensures)
