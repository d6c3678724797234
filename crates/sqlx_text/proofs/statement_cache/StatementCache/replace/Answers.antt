use Rattle.std.proofs.Common.{ap}
use Rattle.lru.specs.LruCache.{lru_cache}
use Rattle.sqlx_text.proofs.Inserted.{inserted-there}
use Rattle.sqlx_text.proofs.statement_cache.StatementCache.replace.Goals as goal

pub returns-in-Some-clause-entries : goal.returns-in-Some-clause-entries
returns-in-Some-clause-entries g c =
    rw c.replace.ensures.after (ap (λ es. lru_cache es c.args.self.now.cap) (inserted-there c.args.k.now c.args.self.now c.args.v c.requires.there c.requires.within))
