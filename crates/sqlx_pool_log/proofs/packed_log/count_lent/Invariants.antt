use Rattle.std.proofs.Common.{◌≡◌, ◌≤◌, take}
use Rattle.sqlx_pool_lists.specs.Balance.{lents}
use Rattle.sqlx_pool_log.specs.Entries.{marks_at}
use Rattle.sqlx_pool_log.proofs.packed_log.count_lent.Given as goal

abbrev pub invariant-loop-at : goal.invariant-loop-at
invariant-loop-at l = (l.loans ≡ lents (marks_at (take l.at l.entries))) × (l.loans ≤ l.at)
