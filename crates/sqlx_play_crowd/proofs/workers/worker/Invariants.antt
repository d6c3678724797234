use Rattle.std.proofs.Common.{◌≡◌, ◌+◌}
use Rattle.sqlx_play_crowd.proofs.workers.worker.Given as goal

-- a loan was made in each round
abbrev pub invariant-loop-at : goal.invariant-loop-at
invariant-loop-at g l = (l.tally.loans ≡ l.fn.tally.loans + l._at) × (l.tally.parts ≡ l.fn.tally.parts)
