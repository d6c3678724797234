use Rattle.std.proofs.Common.{ap, inr}
use Rattle.sqlx_text.specs.declared.error.Error.TheVariants as error
use Rattle.sqlx_traits.specs.StepList.{one_or}
use Rattle.sqlx_traits.proofs.executor.Executor.fetch_one.Goals as goal

pub returns-in-Ok-Some-clause-row : goal.returns-in-Ok-Some-clause-row
returns-in-Ok-Some-clause-row g c =
    let ran = c.in-Ok-Some.ensures.row in (ran.0, ran.1, ap (one_or error.RowNotFound) (rw c.in-Ok-Some.field-0-is at ran.2))

pub returns-in-Ok-None-clause-row : goal.returns-in-Ok-None-clause-row
returns-in-Ok-None-clause-row g c =
    let ran = c.in-Ok-None.ensures.row in (ran.0, ran.1, ap (one_or error.RowNotFound) (rw c.in-Ok-None.field-0-is at ran.2))

pub returns-in-Err-clause-row : goal.returns-in-Err-clause-row
returns-in-Err-clause-row g c = let ran = c.in-Err.ensures.row in (ran.0, ran.1, ap (one_or error.RowNotFound) ran.2)

pub returns-in-Err-clause-cause : goal.returns-in-Err-clause-cause
returns-in-Err-clause-cause g c = inr c.in-Err.ensures.cause
