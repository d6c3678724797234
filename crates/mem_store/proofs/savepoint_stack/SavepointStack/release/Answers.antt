use Rattle.std.proofs.Common.{length}
use Rattle.mem_store.proofs.Undoing.{released-by, released-marked}
use Rattle.mem_store.proofs.savepoint_stack.SavepointStack.release.Goals as goal

pub invariant_of-self : goal.invariant_of-self
invariant_of-self c =
    (released-marked c.args.name (length c.self.inside.changes.items) c.self.inside.saved.items c.uncover.new.saved.items c.pop_front.new.self.items c.uncover.ensures.saved c.pop_front.ensures.rest c.self.invariant.0, c.self.invariant.1)

pub returns : goal.returns
returns c =
    released-by c.args.name c.self.inside.unnoted c.args.self.now c.self.inside.own c.self.inside.changes.items c.self.inside.saved.items c.uncover.new.saved.items c.pop_front.new.self.items c.self.view_is c.uncover.ensures.saved c.pop_front.ensures.rest
    c.requires
