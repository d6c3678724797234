use Rattle.std.proofs.Common.{sym, ◌∙◌, ◌≤◌, length, arith}
use Rattle.mem_store.proofs.Undoing.{as_of-here}
use Rattle.mem_store.proofs.savepoint_stack.go_back.Goals as goal

pub returns-clause-own : goal.returns-clause-own
returns-clause-own g c =
    let ok = c.loop-changes.changes.ok.0 in
    let few : length c.loop-changes.changes.items ≤ c.args.mark = omega (arith, ok, c.loop-changes-test.false, c.len.ensures) in
    sym (as_of-here c.args.mark c.loop-changes.changes.items c.loop-changes.own few) ∙ c.loop-changes.invariant.before c.args.mark (omega arith)
