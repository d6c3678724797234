-- Where the values of a column come from.
use Rattle.std.specs.Prelude.{Option, Some, None}
use Rattle.sqlx_traits.specs.declared.column.ColumnOrigin.{ColumnOrigin}
use Rattle.sqlx_traits.specs.declared.column.ColumnOrigin.TheVariants.{Table, Expression, Unknown}
use Rattle.sqlx_traits.specs.declared.column.TableColumn.{TableColumn}

-- the table's column, where the values come from one
abbrev pub table_of : ColumnOrigin → Option TableColumn
table_of (Table column) = Some column
table_of Expression = None
table_of Unknown = None
