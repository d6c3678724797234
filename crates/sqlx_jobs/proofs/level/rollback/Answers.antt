use Rattle.sqlx_jobs.proofs.Levels.{rolls_back}
use Rattle.sqlx_jobs.proofs.level.rollback.Goals as goal

pub returns : goal.returns
returns g c = λ n before rows begun writes within. rolls_back _ _ n before rows begun writes _ _ _ c.in_ok-run.ensures.reply c.in_ok-run.ensures.store c.in_ok-run.ensures.link within
