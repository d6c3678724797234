use Rattle.std.proofs.Common.{◌≡◌}
use Rattle.tests_pool_threads.proofs.cuts.many.Given as goal

-- the tally keeps its parts
abbrev pub invariant-loop-at : goal.invariant-loop-at
invariant-loop-at g l = l.tally.parts ≡ l.fn.tally.parts
