use Rattle.std.proofs.Common.{◌≤◌}
use Rattle.std.specs.VecDeque.{deque_len}
use Rattle.sqlx_pool_parts.specs.Checks.{ClosesAll}
use Rattle.sqlx_pool_parts.proofs.checks.close_all.Given as goal

-- with the others closed too all are, and the counts never fall
abbrev pub invariant-loop-first : goal.invariant-loop-first
invariant-loop-first g l = record {
  closes : (last : g.row.X.Denot) → ClosesAll g.X.Outside.does l.fn.check l.idle.items l.out last → ClosesAll g.X.Outside.does l.fn.check l.initial.idle.items l.initial.out last;
  counts : (g.X.Outside.faults l.fn.out ≤ g.X.Outside.faults l.out) × (g.X.Outside.refusals l.fn.out ≤ g.X.Outside.refusals l.out);
}

abbrev pub decreases-loop-first : goal.decreases-loop-first
decreases-loop-first g l = deque_len l.idle
