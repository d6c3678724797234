use Rattle.std.proofs.Common.{length, sym, arith, ◌∙◌}
use Rattle.mem_store.proofs.Undoing.{restored-by, restored-marked, unnamed-none}
use Rattle.mem_store.proofs.savepoint_stack.SavepointStack.restore.Goals as goal

pub invariant_of-self : goal.invariant_of-self
invariant_of-self g c = (
  restored-marked c.args.name c.in-Some.mark (length c.self.inside.changes.items) (length c.go_back.new.changes.items) c.self.inside.saved.items c.uncover.new.saved.items c.uncover.ensures.saved (sym c.in-Some.is ∙ c.uncover.ensures.mark)
      c.go_back.ensures.left c.self.invariant.0,
  omega (arith, c.go_back.ensures.left, c.self.invariant.1),
)

pub returns-in-Some-clause-becomes : goal.returns-in-Some-clause-becomes
returns-in-Some-clause-becomes g c =
    restored-by c.args.name c.self.inside.unnoted c.in-Some.mark c.args.self.now c.self.inside.own c.go_back.new.own c.self.inside.changes.items c.go_back.new.changes.items c.self.inside.saved.items c.uncover.new.saved.items
    c.self.view_is c.uncover.ensures.saved (sym c.in-Some.is ∙ c.uncover.ensures.mark) c.self.invariant.0 c.go_back.ensures.left c.go_back.ensures.own c.go_back.ensures.before

pub returns-in_default : goal.returns-in_default
returns-in_default g c = absurd (unnamed-none c.args.name c.self.inside.unnoted c.args.self.now c.self.inside.own c.self.inside.changes.items c.self.inside.saved.items c.uncover.new.saved.items c.self.view_is c.uncover.ensures.saved (sym c.in_default.is ∙ c.uncover.ensures.mark) c.requires)
