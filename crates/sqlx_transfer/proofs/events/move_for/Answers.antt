use Rattle.std.proofs.Common.{arith}
use Rattle.sqlx_transfer.proofs.EventSteps.{depth_at, moves_deep, moves_shallow}
use Rattle.sqlx_transfer.proofs.events.move_for.Goals as goal

pub returns-then-depth-ge100 : goal.returns-then-depth-ge100
returns-then-depth-ge100 g c = λ past o k n b from to at high few sees_from sees_to.
    let same = depth_at past o k n b _ _ at in
    let is = c.depth.ensures in
    let full = c.if-depth-ge100.true in
    moves_deep past o k n b c.args.transfer.now from to _ _ at (omega (arith, same, is, full, high))

pub returns : goal.returns
returns g c = λ past o k n b from to at high few sees_from sees_to.
    let same = depth_at past o k n b _ _ at in
    let is = c.depth.ensures in
    let room = c.if-depth-ge100.false in
    moves_shallow past o k n b c.args.transfer.now from to c.in_ok-reply.reply _ _ _ _ at (λ e. omega (arith, e, is, room)) (c.in_ok-reply.ensures past o k n b from to at (omega (arith, same, is, room)) few sees_from sees_to)
