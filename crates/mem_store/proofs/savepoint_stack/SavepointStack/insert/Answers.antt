use Rattle.std.proofs.Common.{◌≡◌, ◌+◌, suc, length, deque_len, sym, ap, ◌∙◌, to_z-of_z, arith, eqb-true}
use Rattle.mem_store.specs.SavepointStack.{SavepointStack}
use Rattle.mem_store.proofs.Undoing.{inserted-by, noted-marked, unnoted-by}
use Rattle.mem_store.proofs.savepoint_stack.SavepointStack.insert.Goals as goal

pub returns-then-is_empty-clause-ok : goal.returns-then-is_empty-clause-ok
returns-then-is_empty-clause-ok c =
    let written = rw (to_z-of_z c.ranges.key) at c.in_ok-insert.ensures.ok in
    let none : length c.self.inside.saved.items ≡ 0 = omega (arith, c.self.inside.saved.ok.0, eqb-true (deque_len c.self.inside.saved) 0 (sym c.if-is_empty.ensures)) in
    unnoted-by c.args.key c.args.value c.self.inside.unnoted _ c.args.self.now c.self.inside.own c.insert.new.self c.self.inside.changes.items c.self.inside.saved.items c.self.view_is none (omega arith) written

pub returns-clause-ok : goal.returns-clause-ok
returns-clause-ok c =
    let before = rw (to_z-of_z c.ranges.key) at c.in_ok-before.ensures.before in
    let written = rw (to_z-of_z c.ranges.key) at c.in_ok-before.ensures.ok in
    let noted = rw (to_z-of_z c.ranges.key) at (rw c.make_room.ensures.items at c.push_front_reserved.ensures.items) in
    inserted-by c.args.key c.args.value c.in_ok-before.before c.self.inside.unnoted c.args.self.now c.self.inside.own c.insert-2.new.self c.self.inside.changes.items c.push_front_reserved.new.self.items c.self.inside.saved.items c.self.view_is c.self.invariant.0 before
    noted written

pub invariant_of-self-2 : goal.invariant_of-self-2
invariant_of-self-2 c =
    let items = rw c.make_room.ensures.items at c.push_front_reserved.ensures.items in
    let one : length c.push_front_reserved.new.self.items ≡ suc (length c.self.inside.changes.items) = ap length items in
    let here : c.self.inside.unnoted + length c.self.inside.changes.items ≡ c.undo_len.result = ap (λ (k : SavepointStack). k.undo.len) c.self.view_is ∙ sym c.undo_len.ensures in
    (noted-marked _ c.self.inside.changes.items c.push_front_reserved.new.self.items c.self.inside.saved.items items c.self.invariant.0, omega (arith, one, here, c.if-undo_len.false, c.self.invariant.1))

pub invariant_of-self-in_err-make_room : goal.invariant_of-self-in_err-make_room
invariant_of-self-in_err-make_room c = rw c.make_room.ensures.items c.self.invariant

pub invariant_of-self-in_err-before : goal.invariant_of-self-in_err-before
invariant_of-self-in_err-before c = rw c.make_room.ensures.items c.self.invariant

pub push_front_reserved-requires : goal.push_front_reserved-requires
push_front_reserved-requires c = c.in_ok-make_room.ensures.room
