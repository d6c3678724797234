use Rattle.std.proofs.Common.{◌∙◌}
use Rattle.mem_store.proofs.Undoing.{any-newest}
use Rattle.mem_store.proofs.savepoint_stack.SavepointStack.has.Goals as goal

pub returns : goal.returns
returns c = rw (← c.self.view_is) (c.is_among.ensures ∙ any-newest c.args.name c.self.inside.own c.self.inside.changes.items c.self.inside.saved.items)
