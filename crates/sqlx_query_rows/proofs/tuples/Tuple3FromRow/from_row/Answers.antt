use Rattle.std.proofs.Common.{Err, Ok, ap, refl}
use Rattle.sqlx_query_rows.proofs.tuples.Tuple3FromRow.from_row.Goals as goal

pub returns-in-Ok-from_column : goal.returns-in-Ok-from_column
returns-in-Ok-from_column g c = (Ok c.in-Ok.all, c.in-Ok.ensures, (Ok c.in-Ok-from_column.last, c.in-Ok-from_column.ensures, ap Ok c.with_3.ensures))

pub returns-in-Err-from_column : goal.returns-in-Err-from_column
returns-in-Err-from_column g c = (Ok c.in-Ok.all, c.in-Ok.ensures, (Err c.in-Err-from_column.error, c.in-Err-from_column.ensures, refl))
