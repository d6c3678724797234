use Rattle.std.proofs.Common.{◌≡◌, ◌≤◌, ◌+◌}
use Rattle.tests_pool_threads.proofs.waits.waits_often.Given as goal

-- at most a loan in each round
abbrev pub invariant-loop-at : goal.invariant-loop-at
invariant-loop-at g l = (l.tally.parts ≡ l.fn.tally.parts) × (l.tally.loans ≤ l.fn.tally.loans + l._at)
