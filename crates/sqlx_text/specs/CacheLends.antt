-- What a cache of statements ends as, once a reference to a statement has ended.
use Rattle.std.specs.Prelude.{ℕ, List, Option}
use Rattle.std.specs.Borrow.{Fml, RattleType, MutBor, LendsIf}
use Rattle.std.specs.Map.{set_value}
use Rattle.std.specs.Str.{bytes_eq}
use Rattle.lru.specs.LruCache.{LruCache, lru_cache, promoted}
use Rattle.sqlx_text.specs.contracts.statement_cache.StatementCache.{the_row}

-- the text is first, with the last value written through r; where there is none, the cache stays as it is
abbrev pub lends_value : (T : RattleType) → MutBor (LruCache (List ℕ) T.Denot) → List ℕ → Option (MutBor T.Denot) → Fml
lends_value T c text r = LendsIf (the_row T) T c r (λ w. lru_cache (set_value (bytes_eq text) (promoted (bytes_eq text) c.now.entries) w) c.now.cap) c.now
