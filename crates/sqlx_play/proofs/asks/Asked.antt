-- What the letters of a line say of a connect.
use Rattle.std.proofs.Common.{◌≡◌, ◌∙◌, ℕ, max, cond, nat_lt, Option, None, ap}
use Rattle.sqlx_script.specs.declared.answers.ConnectAnswer.TheVariants.{Connected}
use Rattle.sqlx_play.specs.declared.outside.ScriptOutside.{ScriptOutside}
use Rattle.sqlx_play.specs.outside.ScriptOutside.{next_connect, depth_of, is_left_open}
use Rattle.mem_store.specs.Store.{Link}

-- where no connects are accepted before it, the next one has the line's letter
pub connect-letter : (out : ScriptOutside) → out.opens ≡ 0 → next_connect out ≡ out.connect
connect-letter out none = ap (λ (n : ℕ). cond (nat_lt 0 n) Connected out.connect) none

-- a link without a level has none where no hook left one open
pub depth-rests : (out : ScriptOutside) (link : Link) → out.left_open ≡ None → link.depth ≡ 0 → depth_of out link ≡ 0
depth-rests out link none rests = ap (λ (left : Option ℕ). cond (is_left_open left link.number) (max 1 link.depth) link.depth) none ∙ rests
