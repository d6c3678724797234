use Rattle.sqlx_jobs.proofs.Levels.{puts_second, puts_none}
use Rattle.sqlx_jobs.proofs.level.put_second.Goals as goal

pub returns-in_ok-put-in-Some : goal.returns-in_ok-put-in-Some
returns-in_ok-put-in-Some g c = λ n before rows begun writes within few. puts_second _ _ n before rows begun writes _ _ _ c.in-Some.is (c.in_ok-put-in-Some.ensures n before rows begun writes within few)

pub returns-in-None : goal.returns-in-None
returns-in-None g c = λ n before rows begun writes within few. puts_none _ n before rows begun writes _ _ c.in-None.is within
