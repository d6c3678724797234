use Rattle.std.proofs.Common.{string_bytes}
use Rattle.sqlx_any_values.proofs.NamesLemmas.{values_of-by_texts}
use Rattle.sqlx_any_values.proofs.column_names.ColumnNames.are_below.Goals as goal

pub returns : goal.returns
returns c = rw (← c.self.view_is, values_of-by_texts string_bytes c.self.inside.positions.entries) c.each_is_below.ensures
