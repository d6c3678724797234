use Rattle.std.proofs.Common.{is_some, sym, ap, ◌∙◌, string_bytes}
use Rattle.std.specs.Str.{bytes_eq}
use Rattle.sqlx_text.proofs.ByTexts.{lookup-by_texts}
use Rattle.sqlx_text.proofs.statement_cache.StatementCache.contains_key.Goals as goal

pub returns : goal.returns
returns g c =
    rw (← c.self.view_is) (c.contains.ensures ∙ ap is_some (sym (lookup-by_texts string_bytes (bytes_eq c.args.k.now) c.self.inside.statements.entries)))
