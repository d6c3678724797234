use Rattle.std.proofs.Common.{to_z-of_z}
use Rattle.mem_store.proofs.Undoing.{put_back-absent, put_back-present}
use Rattle.mem_store.proofs.rows.Rows.replace.Goals as goal

pub returns-in-Some : goal.returns-in-Some
returns-in-Some c =
    let there = rw (to_z-of_z c.ranges.key) at c.in-Some.ensures.value in
    let after = rw (to_z-of_z c.ranges.key) at (c.get_mut.follows.holds c.args.value) in
    rw (to_z-of_z c.ranges.value, ← c.self.view_is) (put_back-present c.self.inside.tree.entries (c.get_mut.follows.lender c.args.value).entries c.args.key c.args.value _ there (after.3 (search there)).0)

pub returns-in-None : goal.returns-in-None
returns-in-None c =
    let none = rw (to_z-of_z c.ranges.key) at c.in-None.ensures.value in
    rw (c.get_mut.follows.holds-at-none, ← c.self.view_is) (put_back-absent c.self.inside.tree.entries c.args.key c.args.value none)
