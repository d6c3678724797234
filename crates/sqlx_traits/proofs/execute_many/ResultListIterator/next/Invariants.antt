use Rattle.std.proofs.Common.{◌≡◌, length}
use Rattle.sqlx_traits.specs.StepList.{results_of}
use Rattle.sqlx_traits.proofs.execute_many.ResultListIterator.next.Given as goal

abbrev pub invariant-loop-item : goal.invariant-loop-item
invariant-loop-item g l = results_of l.self-inside.list ≡ results_of l.initial.self-inside.list

abbrev pub decreases-loop-item : goal.decreases-loop-item
decreases-loop-item g l = length l.self-inside.list
