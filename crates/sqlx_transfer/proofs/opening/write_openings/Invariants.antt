use Rattle.std.proofs.Common.{◌≤◌, ◌-◌}
use Rattle.sqlx_transfer.specs.Openings.{Wrote}
use Rattle.sqlx_transfer.proofs.opening.write_openings.Given as goal

-- so many balances were written
abbrev pub invariant-loop-account : goal.invariant-loop-account
invariant-loop-account g l = (l.account ≤ l.accounts) × (Wrote l.opening 0 l.initial.store l.initial.link → Wrote l.opening l.account l.store l.link)

abbrev pub decreases-loop-account : goal.decreases-loop-account
decreases-loop-account g l = l.accounts - l.account
