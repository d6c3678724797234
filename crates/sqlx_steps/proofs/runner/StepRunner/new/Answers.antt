use Rattle.std.proofs.Common.{refl}
use Rattle.sqlx_steps.proofs.Standing.{new_stands}
use Rattle.sqlx_steps.proofs.runner.StepRunner.new.Goals as goal

pub returns : goal.returns
returns c = new_stands _ c.new.ensures refl c.in_ok-new.ensures
