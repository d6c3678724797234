use Rattle.std.proofs.Common.{◌∙◌, sym, to_z-of_z}
use Rattle.mem_store.proofs.Trees.{get-found}
use Rattle.mem_store.proofs.rows.Rows.get.Goals as goal

pub returns : goal.returns
returns c = let e = rw (to_z-of_z c.ranges.key) at c.get.ensures.value in rw (← c.self.view_is) (c.copied.ensures ∙ e ∙ sym (get-found c.self.inside.tree.entries c.args.key))
