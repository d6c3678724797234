use Rattle.std.proofs.Common.{◌≡◌, length, take}
use Rattle.sqlx_pool_log.specs.Entries.{marks_at}
use Rattle.sqlx_pool_log.proofs.packed_log.count_all.Given as goal

abbrev pub invariant-loop-at : goal.invariant-loop-at
invariant-loop-at l = l.marks ≡ length (marks_at (take l.at l.entries))
