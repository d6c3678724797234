use Rattle.std.proofs.Common.{ap, ◌∙◌, string_bytes}
use Rattle.sqlx_any_values.specs.Names.{by_texts, with_position}
use Rattle.sqlx_any_values.proofs.NamesLemmas.{insert_entry-by_texts}
use Rattle.sqlx_any_values.proofs.column_names.ColumnNames.insert.Goals as goal

pub returns-clause-ok : goal.returns-clause-ok
returns-clause-ok c =
    let es = c.self.inside.positions.entries in
    rw (c.in_ok-insert.ensures.entries, ← c.self.view_is) (insert_entry-by_texts string_bytes es c.in_ok-text.text c.args.position ∙ ap (λ name. with_position (by_texts string_bytes es) name c.args.position) (c.in_ok-text.ensures.ok ∙ c.as_str.ensures))
