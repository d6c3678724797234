use Rattle.sqlx_jobs.proofs.Plans.{counts}
use Rattle.sqlx_jobs.proofs.event.count.Goals as goal

pub returns : goal.returns
returns c = λ link lease n pairs k few. counts lease n c.args.now _ _ _ pairs _ link k c.count-ready.ensures
