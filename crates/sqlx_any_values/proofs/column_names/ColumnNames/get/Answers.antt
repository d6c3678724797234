use Rattle.std.proofs.Common.{sym, ◌∙◌, string_bytes}
use Rattle.std.specs.Str.{bytes_eq}
use Rattle.sqlx_any_values.proofs.NamesLemmas.{lookup-by_texts}
use Rattle.sqlx_any_values.proofs.column_names.ColumnNames.get.Goals as goal

pub returns : goal.returns
returns c =
    rw (← c.self.view_is) (c.copied.ensures ∙ c.get.ensures.value ∙ sym (lookup-by_texts string_bytes (bytes_eq c.args.name.now) c.self.inside.positions.entries))
