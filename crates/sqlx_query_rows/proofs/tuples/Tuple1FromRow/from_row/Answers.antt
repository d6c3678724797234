use Rattle.std.proofs.Common.{Err, Ok, refl}
use Rattle.sqlx_query_rows.proofs.tuples.Tuple1FromRow.from_row.Goals as goal

pub returns-in-Ok : goal.returns-in-Ok
returns-in-Ok g c = (Ok c.in-Ok.first, c.in-Ok.ensures, refl)

pub returns-in-Err : goal.returns-in-Err
returns-in-Err g c = (Err c.in-Err.refusal, c.in-Err.ensures, refl)
