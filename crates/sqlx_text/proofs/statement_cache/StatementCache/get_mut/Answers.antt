use Rattle.std.proofs.Common.{Bool, String, Global, sym, ◌∙◌, string_bytes, arith}
use Rattle.std.specs.Option.{ghost_name_of}
use Rattle.std.specs.Str.{bytes_eq}
use Rattle.std.proofs.lemmas.Map.{length-set_value}
use Rattle.lru.specs.LruCache.{lru_cache, promoted}
use Rattle.sqlx_text.specs.Cache.{by_texts}
use Rattle.sqlx_text.proofs.ByTexts.{lookup-by_texts, written-by_texts, length-promoted}
use Rattle.sqlx_text.proofs.statement_cache.StatementCache.get_mut.Goals as goal
use borrow.Follows.Closed.{read_of}

pub invariant_of-self-lent : goal.invariant_of-self-lent
invariant_of-self-lent g c =
    let es = c.self.inside.statements.entries in
    let test : String Global → Bool = λ k. bytes_eq c.args.k.now (string_bytes k) in
    λ _. ((λ w. (c.self.invariant.0, omega (arith, c.self.invariant.1, length-set_value test (promoted test es) w, length-promoted test es))), c.self.invariant)

pub returns : goal.returns
returns g c =
    let es = c.self.inside.statements.entries in
    let test = bytes_eq c.args.k.now in
    let capacity = c.self.inside.capacity in
    rw (← c.self.view_is) (
      λ t. read_of (ghost_name_of c.get_mut.result) (λ (w : g.row.T.Denot). lru_cache (written-by_texts string_bytes test es w t) capacity) (lru_cache (by_texts string_bytes es) capacity),
      c.get_mut.ensures.value ∙ sym (lookup-by_texts string_bytes test es),
    )
