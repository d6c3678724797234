use Rattle.std.proofs.Common.{to_z-of_z}
use Rattle.mem_store.proofs.Undoing.{unwritten-by}
use Rattle.mem_store.proofs.writes.overwrite.Goals as goal

pub returns-clause-undo : goal.returns-clause-undo
returns-clause-undo c =
    let before = rw (to_z-of_z c.ranges.key) at c.in_ok-before.ensures.before in
    let written = rw (to_z-of_z c.ranges.value) at (rw (to_z-of_z c.ranges.key) at c.in_ok-before.ensures.ok) in
    let noted = rw (to_z-of_z c.ranges.key) at (rw c.reserve.ensures.items at c.push_front_reserved.ensures.items) in
    unwritten-by c.args.noted.now.items c.push_front_reserved.new.self.items c.args.rows.now c.insert.new.self c.args.key c.args.value c.in_ok-before.before before noted written
