use Rattle.std.proofs.Common.{◌≤◌, ◌-◌}
use Rattle.sqlx_transfer.specs.Openings.{Fills, AreAlike}
use Rattle.sqlx_transfer.proofs.opening.fill_pool.Given as goal

-- so many connections are opened
abbrev pub invariant-loop-count : goal.invariant-loop-count
invariant-loop-count l = (1 ≤ l.count) × (l.count ≤ l.max) × Fills l.max l.count l.core.pool × AreAlike l.initial.store l.store

abbrev pub decreases-loop-count : goal.decreases-loop-count
decreases-loop-count l = l.max - l.count
