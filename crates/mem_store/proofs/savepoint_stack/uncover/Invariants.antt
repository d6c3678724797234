use Rattle.std.proofs.Common.{◌≡◌, deque_len}
use Rattle.mem_store.specs.UndoLog.{from_name}
use Rattle.mem_store.proofs.savepoint_stack.uncover.Given as goal

abbrev pub invariant-loop-top : goal.invariant-loop-top
invariant-loop-top l = from_name l.name l.saved.items ≡ from_name l.name l.initial.saved.items

abbrev pub decreases-loop-top : goal.decreases-loop-top
decreases-loop-top l = deque_len l.saved
