use Rattle.sqlx_query_rows.proofs.from_column.AnyFromColumn.from_column.Goals as goal

pub returns : goal.returns
returns g c = c.try_get.ensures
