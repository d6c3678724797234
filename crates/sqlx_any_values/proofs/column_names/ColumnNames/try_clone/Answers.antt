use Rattle.std.proofs.Common.{string_bytes}
use Rattle.sqlx_any_values.proofs.NamesLemmas.{by_texts-clone}
use Rattle.sqlx_any_values.proofs.column_names.ColumnNames.try_clone.Goals as goal

pub returns : goal.returns
returns c =
    rw (← c.self.view_is) (by_texts-clone string_bytes c.self.inside.positions.entries c.in_ok-clone.field-0.entries c.in_ok-clone.ensures.cases)
