use Rattle.std.proofs.Common.{◌≡◌, ℕ, ◌+◌, ◌≤◌, length, min, deque_len}
use Rattle.mem_store.specs.UndoLog.{as_of}
use Rattle.mem_store.proofs.savepoint_stack.go_back.Given as goal

-- what stood at the mark, or before it, can be found still
abbrev pub invariant-loop-changes : goal.invariant-loop-changes
invariant-loop-changes g l = record {
  before : (earlier : ℕ) → earlier ≤ l.mark → as_of earlier l.changes.items l.own ≡ as_of earlier l.initial.changes.items l.initial.own;
  left : min l.mark (length l.changes.items) ≡ min l.mark (length l.initial.changes.items);
  count : l.steps + length l.changes.items ≡ l.initial.steps + length l.initial.changes.items;
}

abbrev pub decreases-loop-changes : goal.decreases-loop-changes
decreases-loop-changes g l = deque_len l.changes
