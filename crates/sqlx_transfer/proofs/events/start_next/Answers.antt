use Rattle.std.proofs.Common.{arith}
use Rattle.sqlx_transfer.proofs.EventSteps.{depth_at, starts_deep, starts_level}
use Rattle.sqlx_transfer.proofs.events.start_next.Goals as goal

pub returns-then-levels-ge100 : goal.returns-then-levels-ge100
returns-then-levels-ge100 g c = λ past o k n b at high few.
    let same = depth_at past o k n b _ _ at in
    let is = c.depth-levels.ensures in
    let full = c.if-levels-ge100.true in
    starts_deep past o k n b _ _ at (omega (arith, same, is, full, high))

pub returns : goal.returns
returns g c = λ past o k n b at high few.
    let same = depth_at past o k n b _ _ at in
    let is = c.depth-levels.ensures in
    let room = c.if-levels-ge100.false in
    starts_level past o k n b c.depth-levels.result _ _ _ _ at is (λ e. omega (arith, e, room)) (c.in_ok-begin.ensures past o k n b at (omega (arith, same, is, room)) few)
