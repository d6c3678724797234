use Rattle.std.proofs.Common.{◌≡◌}
use Rattle.tests_families.proofs.cuts.a_hundred.Given as goal

-- the tally keeps its parts
abbrev pub invariant-loop : goal.invariant-loop
invariant-loop g l = l.tally.parts ≡ l.initial.tally.parts
