use Rattle.std.proofs.Common.{◌≡◌, length}
use Rattle.sqlx_traits.specs.StepList.{combined}
use Rattle.sqlx_traits.proofs.execute_many.combine.Given as goal

abbrev pub invariant-loop-item : goal.invariant-loop-item
invariant-loop-item g l = combined g.Q.QueryResult.extended l.all l.results
    ≡ combined g.Q.QueryResult.extended l.initial.all l.initial.results

abbrev pub decreases-loop-item : goal.decreases-loop-item
decreases-loop-item g l = length l.results
