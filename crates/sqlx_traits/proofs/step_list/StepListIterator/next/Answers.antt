use Rattle.std.proofs.Common.{refl}
use Rattle.sqlx_traits.proofs.step_list.StepListIterator.next.Goals as goal

pub returns-in-Some-clause-steps : goal.returns-in-Some-clause-steps
returns-in-Some-clause-steps g c = rw (← c.self.view_is, c.in-Some.ensures.items) refl
