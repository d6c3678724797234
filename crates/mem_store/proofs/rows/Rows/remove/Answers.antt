use Rattle.std.proofs.Common.{to_z-of_z}
use Rattle.mem_store.proofs.Trees.{from_entries-remove}
use Rattle.mem_store.proofs.rows.Rows.remove.Goals as goal

pub returns : goal.returns
returns c =
    let e = rw (to_z-of_z c.ranges.key) at c.remove.ensures.updates in
    rw (← c.self.view_is) (from_entries-remove c.self.inside.tree.entries c.remove.new.self.entries c.args.key e.0)
