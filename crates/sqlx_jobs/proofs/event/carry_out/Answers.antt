use Rattle.sqlx_jobs.proofs.Levels.{made, not_made, nothing}
use Rattle.sqlx_jobs.proofs.event.carry_out.Goals as goal

pub returns-then-branch : goal.returns-then-branch
returns-then-branch g c = λ n rows begun writes within few.
    made _ _ _ _ n rows begun writes _ _ _ c.in-Some.is c.if-branch.true (c.in_ok-make-in-Some.ensures n rows begun writes within few)

pub returns-else-branch : goal.returns-else-branch
returns-else-branch g c = λ n rows begun writes within few.
    not_made _ _ _ _ n rows begun writes _ _ _ c.in-Some.is c.if-branch.false (c.in_ok-make-in-Some.ensures n rows begun writes within few)

pub returns-in_ok-rollback-in-None : goal.returns-in_ok-rollback-in-None
returns-in_ok-rollback-in-None g c = λ n rows begun writes within few.
    nothing _ _ _ n rows begun writes _ _ c.in-None.is (c.in_ok-rollback-in-None.ensures n rows rows begun writes within)
