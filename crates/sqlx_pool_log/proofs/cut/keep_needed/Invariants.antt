use Rattle.std.proofs.Common.{◌≡◌, ◌≤◌, ◌++◌, length, take, drop, vec_capacity}
use Rattle.sqlx_pool_marks.specs.Cut.{needed_of}
use Rattle.sqlx_pool_log.specs.Entries.{marks_at}
use Rattle.sqlx_pool_log.proofs.cut.keep_needed.Given as goal

-- what was kept, and what is needed of the rest, is what is needed of all
abbrev pub invariant-loop-at : goal.invariant-loop-at
invariant-loop-at l = record {
  len : length l.entries.items ≡ length l.initial.entries.items;
  capacity : vec_capacity l.entries ≡ vec_capacity l.initial.entries;
  kept : l.kept ≤ l.at;
  says : marks_at (take l.kept l.entries.items) ++ needed_of l.next_ticket l.next_conn (marks_at (drop l.at l.entries.items)) ≡ needed_of l.next_ticket l.next_conn (marks_at l.initial.entries.items);
}
