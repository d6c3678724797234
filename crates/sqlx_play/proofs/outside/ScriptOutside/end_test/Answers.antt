use Rattle.std.proofs.Common.{◌≡◌, ℕ, ◌==◌, max, Bool, true, false, Option, Some, None, if◌then◌else◌, sym, ap, subst, arith}
use Rattle.mem_store.specs.Store.{Link}
use Rattle.sqlx_play.specs.declared.outside.ScriptOutside.{ScriptOutside}
use Rattle.sqlx_play.specs.outside.ScriptOutside.{beside, is_left_open}
use Rattle.sqlx_play.proofs.outside.ScriptOutside.end_test.Goals as goal

-- a link without an open level has none when another is forgotten
beside_rests : (number : ℕ) (left : Option ℕ) (link : Link) → (if is_left_open left link.number then max 1 link.depth else link.depth) ≡ 0 → (if is_left_open (beside number left) link.number then max 1 link.depth else link.depth) ≡ 0
beside_rests number None link h = h
beside_rests number (Some left) link h = by (left == number) (left == link.number) h
  where
    by : (forgets own : Bool) → (if own then max 1 link.depth else link.depth) ≡ 0 → (if is_left_open (if forgets then None else Some left) link.number then max 1 link.depth else link.depth) ≡ 0
    by true true k = absurd (omega (arith, k))
    by true false k = k
    by false own k = h

pub returns-clause-none : goal.returns-clause-none
returns-clause-none c = λ any h.
    let left : c.forget.new.self.left_open ≡ beside c.args.number c.args.self.now.left_open = ap (λ (out : ScriptOutside). out.left_open) c.forget.ensures.becomes in
    subst (λ (left : Option ℕ). (if is_left_open left any.number then max 1 any.depth else any.depth) ≡ 0) (sym left) (beside_rests c.args.number c.args.self.now.left_open any h)
