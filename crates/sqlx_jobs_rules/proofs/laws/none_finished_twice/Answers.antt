use Rattle.sqlx_jobs_rules.proofs.Holders as holders
use Rattle.sqlx_jobs_rules.proofs.laws.none_finished_twice.Goals as goal

pub returns : goal.returns
returns c = holders.none_finished_twice
