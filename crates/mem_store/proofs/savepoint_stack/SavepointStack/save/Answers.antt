use Rattle.std.proofs.Common.{◌∙◌}
use Rattle.mem_store.proofs.Undoing.{saved-by}
use Rattle.mem_store.proofs.savepoint_stack.SavepointStack.save.Goals as goal

pub returns-clause-ok : goal.returns-clause-ok
returns-clause-ok c =
    let saved = rw c.make_room.ensures.items at c.push_front_reserved.ensures.items in
    saved-by c.args.name c.len-mark.result c.self.inside.unnoted _ c.self.inside.own c.self.inside.changes.items c.self.inside.saved.items c.push_front_reserved.new.self.items c.self.view_is (c.len-mark.ensures ∙ c.self.inside.changes.ok.0) saved
