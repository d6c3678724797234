use Rattle.std.proofs.Common.{◌≡◌, ◌≤◌}
use Rattle.sqlx_pool.proofs.acquiring.AcquiringOf.wait.Given as goal

-- no loan was counted yet, and the outside's counts never fell
abbrev pub invariant-loop-round : goal.invariant-loop-round
invariant-loop-round g l = (g.S.Tally.Tallies.counted l.tally ≡ g.S.Tally.Tallies.counted l.fn.tally) × (g.X.Outside.faults l.fn.out ≤ g.X.Outside.faults l.out) × (g.X.Outside.refusals l.fn.out ≤ g.X.Outside.refusals l.out)
