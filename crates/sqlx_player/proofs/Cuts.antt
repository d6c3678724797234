-- Bytes that are cut into pieces, with one more piece behind.
use Rattle.std.proofs.Common.{◌≡◌, ℕ, ◌+◌, ◌≤◌, List, [], ◌∷◌, ◌++◌, length, take, drop, refl, sym, ap, ◌∙◌, arith}
use Rattle.std.specs.List.{sum}
use Rattle.std.proofs.lemmas.List.{take-append-le, drop-append-le, length-drop, length-append}
use Rattle.std.proofs.lemmas.List.Sums.{sum_by-cons, sum_by-append}
use Rattle.std.proofs.Math.Seq.{take-length}
use Rattle.sqlx_player.specs.Calls.{cut}

no_bytes : (bytes : List ℕ) → 0 ≡ length bytes → bytes ≡ []
no_bytes [] h = refl
no_bytes (b ∷ bytes) h = absurd (omega (arith, h))

-- one more piece
pub cut_more : (sizes bytes piece : List ℕ) → sum sizes ≡ length bytes → cut (sizes ++ length piece ∷ []) (bytes ++ piece) ≡ cut sizes bytes ++ piece ∷ []
unfolding cut
cut_more [] bytes piece h =
    ap (λ bs. take (length piece) (bs ++ piece) ∷ []) (no_bytes bytes h) ∙ ap (λ p. p ∷ []) (take-length piece)
cut_more (n ∷ sizes) bytes piece h =
    let all : n + sum sizes ≡ length bytes = sym (sum_by-cons (λ x. x) n sizes) ∙ h in
    let inside : n ≤ length bytes = omega (arith, all) in
    let rest : sum sizes ≡ length (drop n bytes) = rw (length-drop n bytes) (omega (arith, all)) in
    ap (λ p. p ∷ cut (sizes ++ length piece ∷ []) (drop n (bytes ++ piece))) (take-append-le n bytes piece inside)
    ∙ ap (λ bs. take n bytes ∷ cut (sizes ++ length piece ∷ []) bs) (drop-append-le n bytes piece inside)
    ∙ ap (λ ps. take n bytes ∷ ps) (cut_more sizes (drop n bytes) piece rest)

-- the bytes grow by a piece, and the sizes by its length
pub cut_grown : (sizes sizes' bytes bytes' piece : List ℕ) → sum sizes ≡ length bytes → sizes' ≡ sizes ++ length piece ∷ [] → bytes' ≡ bytes ++ piece → cut sizes' bytes' ≡ cut sizes bytes ++ piece ∷ []
cut_grown sizes sizes' bytes bytes' piece h s b = ap (λ ss. cut ss bytes') s ∙ ap (cut (sizes ++ length piece ∷ [])) b ∙ cut_more sizes bytes piece h

pub sum_grown : (sizes sizes' bytes bytes' piece : List ℕ) → sum sizes ≡ length bytes → sizes' ≡ sizes ++ length piece ∷ [] → bytes' ≡ bytes ++ piece → sum sizes' ≡ length bytes'
sum_grown sizes sizes' bytes bytes' piece h s b =
    let more = sum_by-append (λ x. x) sizes (length piece ∷ []) in
    let all : sum sizes' ≡ sum (sizes ++ length piece ∷ []) = ap sum s in
    let long : length bytes' ≡ length bytes + length piece = ap length b ∙ length-append bytes piece in
    omega (arith, more, all, long, h)

-- nothing changes
pub cut_same : (sizes sizes' bytes bytes' : List ℕ) → sizes' ≡ sizes → bytes' ≡ bytes → cut sizes' bytes' ≡ cut sizes bytes
cut_same sizes sizes' bytes bytes' s b = ap (λ ss. cut ss bytes') s ∙ ap (cut sizes) b

pub sum_same : (sizes sizes' bytes bytes' : List ℕ) → sum sizes ≡ length bytes → sizes' ≡ sizes → bytes' ≡ bytes → sum sizes' ≡ length bytes'
sum_same sizes sizes' bytes bytes' h s b = ap sum s ∙ h ∙ ap length (sym b)

pub cut_nothing : (bytes : List ℕ) → cut [] bytes ≡ []
unfolding cut
cut_nothing bytes = refl
