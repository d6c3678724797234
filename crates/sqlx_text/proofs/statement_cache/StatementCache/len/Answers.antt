use Rattle.std.proofs.Common.{string_bytes}
use Rattle.sqlx_text.proofs.ByTexts.{IsDistinct-by_texts}
use Rattle.sqlx_text.proofs.statement_cache.StatementCache.len.Goals as goal

pub returns-clause-distinct : goal.returns-clause-distinct
returns-clause-distinct g c =
    rw (← c.self.view_is) (IsDistinct-by_texts string_bytes c.self.inside.statements.entries c.len.ensures.valid.0)
