use Rattle.std.proofs.Common.{◌≤◌}
use mathlib.Core.List.{IsPrefix}
use Rattle.sqlx_pool.proofs.ReapLemmas.{SoFar}
use Rattle.sqlx_pool.proofs.pool.PoolOf.reap_all.Given as goal

-- so many were reaped, the counts never fall, and the front never gets shorter
abbrev pub invariant-loop-reaped : goal.invariant-loop-reaped
invariant-loop-reaped g l = record {
  reaps : SoFar g.X.Outside.does g.S.PoolSteps.stands g.S.PoolSteps.does l.fn.self.shared.value.name l.fn.now l.reaped l.fn.me l.me l.fn.out l.out;
  counts : (g.X.Outside.faults l.fn.out ≤ g.X.Outside.faults l.out) × (g.X.Outside.refusals l.fn.out ≤ g.X.Outside.refusals l.out);
  later : IsPrefix l.fn.me l.me;
}
