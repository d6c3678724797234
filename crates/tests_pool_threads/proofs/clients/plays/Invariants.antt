use Rattle.std.proofs.Common.{◌≡◌}
use Rattle.tests_pool_threads.proofs.clients.plays.Given as goal

-- the tally keeps its parts
abbrev pub invariant-loop-row : goal.invariant-loop-row
invariant-loop-row g l = (g.S.Tally.Tallies.counted l.tally).parts ≡ (g.S.Tally.Tallies.counted l.fn.tally).parts
