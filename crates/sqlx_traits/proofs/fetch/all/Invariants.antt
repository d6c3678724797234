use Rattle.std.proofs.Common.{◌≡◌, ◌++◌, length}
use Rattle.sqlx_traits.specs.StepList.{all_of, first_error, or_error, values_of}
use Rattle.sqlx_traits.proofs.fetch.all.Given as goal

abbrev pub invariant-loop-item : goal.invariant-loop-item
invariant-loop-item g l = or_error (l.all.items ++ values_of l.rows) (first_error l.rows) ≡ all_of l.initial.rows

abbrev pub decreases-loop-item : goal.decreases-loop-item
decreases-loop-item g l = length l.rows
