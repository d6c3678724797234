use Rattle.std.proofs.Common.{rules, tests, [], refl}
use Rattle.std.specs.List.Sorted.{IsStrictlySortedBy}
use Rattle.sqlx_pool_places.specs.Line.{IsSound}
use Rattle.sqlx_pool_places.proofs.line.Line.new.Goals as goal

nobody : IsSound [] 0 0 0
unfolding IsStrictlySortedBy
nobody = search (rules, tests)

pub invariant_of-result : goal.invariant_of-result
invariant_of-result c = rw c.new.ensures.items (record { rising = tt; counted_right = refl; sound = nobody })
