use Rattle.std.proofs.Common.{Err, ap, arith}
use Rattle.sqlx_pool.proofs.begins.begin_on.Goals as goal

pub returns-in-Err : goal.returns-in-Err
returns-in-Err g c =
    let e = c.in-Err.ensures in
    let flat = c.requires.flat in
    record { begun = (c.args.conn.raw, flat, (e.does, e.levels, e.rises, e.cause), (λ bad. let inside = (e.only_inside (ap Err bad)).1 in omega (arith, inside, flat))) }
