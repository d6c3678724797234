use Rattle.std.proofs.Common.{◌≡◌, ◌∙◌, ap, string_bytes, arith}
use Rattle.lru.specs.LruCache.{lru_cache}
use Rattle.sqlx_text.proofs.Inserted.{inserted-new, handed_back-new, length-inserted-new}
use Rattle.sqlx_text.proofs.statement_cache.StatementCache.add.Goals as goal
use Rattle.sqlx_text.proofs.statement_cache.StatementCache.add.Goals.{in-Ok-push, in-Err-push}

pub invariant_of-self : goal.invariant_of-self
invariant_of-self g c =
    let es = c.self.inside.statements.entries in
    let room = rw (← c.self.view_is) at c.requires.room in
    let none = rw (← c.self.view_is) at c.requires.new in
    let capped : c.self.inside.statements.cap ≡ c.self.inside.capacity = c.self.invariant.0 ∙ omega (arith, room) in
    elim c.match-push.branch [
      | in-Ok-push w ↦ rw w.in-Ok-push.ensures.entries (c.self.invariant.0, length-inserted-new string_bytes c.in-Ok.text es _ c.args.k.now c.self.inside.capacity c.in-Ok.ensures.ok capped none c.args.v room)
      | in-Err-push w ↦ rw w.in-Err-push.ensures.err c.self.invariant
    ]

pub returns-after-push-clause-ok : goal.returns-after-push-clause-ok
returns-after-push-clause-ok g c =
    let es = c.self.inside.statements.entries in
    let room = rw (← c.self.view_is) at c.requires.room in
    let none = rw (← c.self.view_is) at c.requires.new in
    let capped : c.self.inside.statements.cap ≡ c.self.inside.capacity = c.self.invariant.0 ∙ omega (arith, room) in
    elim c.match-push.branch [
      | in-Ok-push w ↦ rw (w.result-is, w.in-Ok-push.ensures.entries, ← c.self.view_is) (ap (λ xs. lru_cache xs c.self.inside.capacity) (inserted-new string_bytes c.in-Ok.text es _ c.args.k.now c.self.inside.capacity c.in-Ok.ensures.ok capped none c.args.v room))
      | in-Err-push w ↦ rw w.result-is tt
    ]

pub returns-after-push-clause-handed_back : goal.returns-after-push-clause-handed_back
returns-after-push-clause-handed_back g c =
    let es = c.self.inside.statements.entries in
    let room = rw (← c.self.view_is) at c.requires.room in
    let none = rw (← c.self.view_is) at c.requires.new in
    let capped : c.self.inside.statements.cap ≡ c.self.inside.capacity = c.self.invariant.0 ∙ omega (arith, room) in
    elim c.match-push.branch [
      | in-Ok-push w ↦ rw (w.result-is, w.without_text.ensures, w.in-Ok-push.ensures.old, ← c.self.view_is) (handed_back-new string_bytes c.in-Ok.text es _ c.args.k.now c.self.inside.capacity c.in-Ok.ensures.ok capped none c.args.v)
      | in-Err-push w ↦ rw w.result-is tt
    ]
