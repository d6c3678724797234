use Rattle.std.proofs.Common.{refl}
use Rattle.sqlx_query_rows.proofs.from_row.UnitFromRow.from_row.Goals as goal

pub returns : goal.returns
returns g c = refl
