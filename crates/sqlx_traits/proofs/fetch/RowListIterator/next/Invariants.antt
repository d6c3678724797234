use Rattle.std.proofs.Common.{◌≡◌, length}
use Rattle.sqlx_traits.specs.StepList.{rows_of}
use Rattle.sqlx_traits.proofs.fetch.RowListIterator.next.Given as goal

abbrev pub invariant-loop-item : goal.invariant-loop-item
invariant-loop-item g l = rows_of l.self-inside.list ≡ rows_of l.initial.self-inside.list

abbrev pub decreases-loop-item : goal.decreases-loop-item
decreases-loop-item g l = length l.self-inside.list
