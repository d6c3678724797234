use Rattle.std.proofs.Common.{ap, string_bytes}
use Rattle.lru.specs.LruCache.{lru_cache}
use Rattle.sqlx_text.proofs.ByTexts.{without_last-by_texts}
use Rattle.sqlx_text.proofs.statement_cache.StatementCache.remove_lru.Goals as goal

pub returns-clause-entries : goal.returns-clause-entries
returns-clause-entries g c =
    rw (c.pop_lru.ensures.entries, ← c.self.view_is) (ap (λ es. lru_cache es c.self.inside.capacity) (without_last-by_texts string_bytes c.self.inside.statements.entries))
