use Rattle.std.proofs.Common.{refl, sym, arith}
use Rattle.sqlx_transfer.proofs.EventSteps.{dropping, drops_next, dropped}
use Rattle.sqlx_transfer.proofs.events.give_all_up.Goals as goal

pub loop-left-init : goal.loop-left-init
loop-left-init g c = λ past o k n b line things at one stands quiet. record { drops = dropping past o k n b line things _ _ at one stands quiet; count = sym c.depth-left.ensures }

pub loop-left-preserved : goal.loop-left-preserved
loop-left-preserved g c = λ past o k n b line things at one stands quiet.
    drops_next c.loop-left.left _ o k n b line things _ _ _ _ (c.loop-left.invariant past o k n b line things at one stands quiet) (omega arith) refl
    (λ past' at' one'. c.in_ok-give_up.ensures past' o k n b at' one')

pub returns : goal.returns
returns g c = λ past o k n b line things at one stands quiet.
    let d = c.loop-left.invariant past o k n b line things at one stands quiet in
    let count = d.count in
    dropped o k n b line things _ _ d.drops (omega (arith, count))
