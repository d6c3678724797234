use Rattle.std.proofs.Common.{arith}
use Rattle.sqlx_pool_lists.proofs.HeldLists.{none-of, got-within}
use Rattle.sqlx_pool_lists.proofs.held_list.look_for.Goals as goal

pub returns-clause-none : goal.returns-clause-none
returns-clause-none c = none-of c.args.conn c.args.places.now (λ j h e.
    let within = got-within c.args.places.now j h e in
    let past = c.loop-place-test.false in
    c.loop-place.invariant j (grind (arith, within, past)) h e)
