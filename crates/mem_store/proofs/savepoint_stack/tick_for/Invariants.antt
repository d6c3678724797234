use Rattle.std.proofs.Common.{◌≡◌, ◌+◌}
use Rattle.mem_store.proofs.savepoint_stack.tick_for.Given as goal

abbrev pub invariant-loop : goal.invariant-loop
invariant-loop g l = l.steps ≡ l.initial.steps + l.counter
