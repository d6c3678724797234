use Rattle.std.proofs.Common.{◌≡◌, deque_len}
use Rattle.mem_store.specs.UndoLog.{unwritten}
use Rattle.mem_store.proofs.writes.unwrite.Given as goal

-- what is noted still leads back to the same rows
abbrev pub invariant-loop-overwrite : goal.invariant-loop-overwrite
invariant-loop-overwrite l = unwritten l.noted.items l.rows ≡ unwritten l.initial.noted.items l.initial.rows

abbrev pub decreases-loop-overwrite : goal.decreases-loop-overwrite
decreases-loop-overwrite l = deque_len l.noted
