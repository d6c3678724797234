use Rattle.sqlx_jobs_rules.proofs.Moments as moments
use Rattle.sqlx_jobs_rules.proofs.laws.moments_never_fall.Goals as goal

pub returns : goal.returns
returns c = moments.moments_never_fall
