use Rattle.std.proofs.Common.{◌≡◌, take}
use Rattle.sqlx_pool_log.specs.Entries.{marks_at}
use Rattle.sqlx_pool_log.proofs.written.write_all.Given as goal

abbrev pub invariant-loop-at : goal.invariant-loop-at
invariant-loop-at l = l.marks.items ≡ marks_at (take l.at l.entries)
