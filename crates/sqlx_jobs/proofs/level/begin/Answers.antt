use Rattle.sqlx_jobs.proofs.Levels.{begins}
use Rattle.sqlx_jobs.proofs.level.begin.Goals as goal

pub returns : goal.returns
returns g c = λ n rows begun writes rests few. begins _ _ n rows begun writes _ _ _ rests few c.in_ok-run.ensures.reply c.in_ok-run.ensures.store c.in_ok-run.ensures.link
