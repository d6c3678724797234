use Rattle.std.proofs.Common.{refl}
use Rattle.sqlx_traits.proofs.step_list.StepList.not_encoded.Goals as goal

pub returns-in-OutOfMemory : goal.returns-in-OutOfMemory
returns-in-OutOfMemory g c = rw (c.refused.ensures, c.in-OutOfMemory.is) refl
