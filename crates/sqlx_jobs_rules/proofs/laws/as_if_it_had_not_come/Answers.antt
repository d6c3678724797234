use Rattle.sqlx_jobs_rules.proofs.Faults as faults
use Rattle.sqlx_jobs_rules.proofs.laws.as_if_it_had_not_come.Goals as goal

pub returns : goal.returns
returns c = faults.as_if_it_had_not_come
