use Rattle.std.proofs.Common.{◌≡◌}
use Rattle.sqlx_play_crowd.proofs.workers.one_loan.Given as goal

-- no loan was made yet
abbrev pub invariant-loop-round : goal.invariant-loop-round
invariant-loop-round g l = (l.tally.loans ≡ l.fn.tally.loans) × (l.tally.parts ≡ l.fn.tally.parts)
