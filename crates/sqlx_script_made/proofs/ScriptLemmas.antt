-- A step of the loop that writes the script line by line.
use Rattle.std.proofs.Common.{◌≡◌, ℕ, suc, ◌+◌, ◌-◌, ◌/◌, ◌%◌, ◌<◌, ◌≤◌, List, ◌++◌, refl, sym, ap, ◌∙◌, append_assoc, arith}
use Rattle.std.proofs.lemmas.List.{append-nil}
use Rattle.sqlx_script_made.specs.declared.block.Block.{Block}
use Rattle.sqlx_script_made.specs.Blocks.{block_after, block_at}
use Rattle.sqlx_script_made.specs.Made.{line_in, line_at, lines_from}
use Rattle.sqlx_script_made.proofs.BlocksLemmas.{IsAmong, block_at-among}

lines_more : (seed i count : ℕ) (more : ℕ) → more ≡ suc count → lines_from seed i more ≡ line_at seed i ++ lines_from seed (i + 1) count
unfolding lines_from
lines_more seed i count more e = rw e refl

-- one more line is written
pub text_more : (seed i n : ℕ) (text line text' whole : List ℕ) (block : Block) → i ≤ n → block ≡ block_at seed ((i - 2) / 7)
    → text ++ lines_from seed i (n + 1 - i) ≡ whole → line ≡ line_in i block ((i - 2) % 7) → text' ≡ text ++ line → text' ++ lines_from seed (i + 1) (n + 1 - (i + 1)) ≡ whole
unfolding line_at
text_more seed i n text line text' whole block inside at so_far is more =
    ap (λ t. t ++ lines_from seed (i + 1) (n + 1 - (i + 1))) (more ∙ ap (λ l. text ++ l) (is ∙ ap (λ b. line_in i b ((i - 2) % 7)) at))
    ∙ append_assoc text (line_at seed i) (lines_from seed (i + 1) (n + 1 - (i + 1)))
    ∙ ap (λ l. text ++ l) (sym (lines_more seed i (n + 1 - (i + 1)) (n + 1 - i) (omega (arith, inside))))
    ∙ so_far

-- nothing is left to write
pub text_all : (seed i n : ℕ) (text whole : List ℕ) → n < i → text ++ lines_from seed i (n + 1 - i) ≡ whole → text ≡ whole
unfolding lines_from
text_all seed i n text whole past so_far =
    let none : n + 1 - i ≡ 0 = omega (arith, past) in
    sym (append-nil text) ∙ ap (λ k. text ++ lines_from seed i k) (sym none) ∙ so_far

-- the next line is of the same block
pub block_stays : (seed i : ℕ) (block : Block) → 2 ≤ i → block ≡ block_at seed ((i - 2) / 7) → ((i - 2) % 7 ≡ 6 → ⊥) → block ≡ block_at seed ((i + 1 - 2) / 7)
block_stays seed i block low at same = at ∙ ap (block_at seed) (omega (arith, low, same))

-- the next line is the first of the block behind it
pub block_more : (seed i : ℕ) (block : Block) → 2 ≤ i → block ≡ block_at seed ((i - 2) / 7) → (i - 2) % 7 ≡ 6 → block_after block ≡ block_at seed ((i + 1 - 2) / 7)
unfolding block_at
block_more seed i block low at last =
    let next : suc ((i - 2) / 7) ≡ (i + 1 - 2) / 7 = omega (arith, low, last) in
    ap block_after at ∙ ap (block_at seed) next

-- the numbers of the block are small
pub small_block : (seed before : ℕ) (block : Block) → before < 10000 → block ≡ block_at seed before → IsAmong 10000 block
small_block seed before block h at =
    let a = block_at-among seed before in
    rw at (record { ticket = omega (arith, h, a.ticket); connection = omega (arith, h, a.connection); drawn = a.drawn })
