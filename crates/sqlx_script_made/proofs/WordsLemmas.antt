-- A line that is made of words has these words.
use Rattle.std.proofs.Common.{◌≡◌, ℕ, ◌-◌, ◌^◌, ◌<◌, ◌≤◌, ◌==◌, true, false, not, List, [], ◌∷◌, ◌++◌, Option, length, take, get_or, refl, sym, ap, ◌∙◌, append_assoc, arith}
use Rattle.std.specs.Fmt.{decimal}
use Rattle.std.specs.List.{list_all, slice_split, onto_first, join_with_byte}
use Rattle.std.proofs.Math.Seq.{take-append_seam, get_or-append_seam}
use Rattle.std.proofs.lemmas.Bool.{cond-true, cond-false, and_parts}
use Rattle.std.proofs.lemmas.Bool.Decides.{nat_tests}
use Rattle.std.proofs.lemmas.Fmt.{length-decimal-le}
use Rattle.std.proofs.lemmas.List.{length-append}
use Rattle.sqlx_lines.specs.Words.{is_blank, longer, lines_of, ends_well, whole}
use Rattle.sqlx_script_made.specs.Made.{line_of_words}
use Rattle.sqlx_script_made.proofs.Decimals.{is_inner, decimal_inner}

-- A short word: neither a blank nor a newline is in it.
pub record IsWord (w : List ℕ) : Type 0 where
  pub inner : list_all is_inner w ≡ true
  pub short : length w ≤ 10

-- All of them are.
abbrev pub AreWords : List (List ℕ) → Type 0
AreWords [] = Unit {0}
AreWords (w ∷ ws) = IsWord w × AreWords ws

pub word-decimal : (n : ℕ) → n < 10 ^ 10 → IsWord (decimal n)
word-decimal n h = record { inner = decimal_inner n (omega arith); short = length-decimal-le 10 n (omega arith) h (omega arith) }

no_blank : (b : ℕ) → is_inner b ≡ true → is_blank b ≡ false
no_blank b h = grind (arith, nat_tests)

no_newline : (b : ℕ) → is_inner b ≡ true → (b == 10) ≡ false
no_newline b h = grind (arith, nat_tests)

-- ---- words of a text

split_at : (w rest : List ℕ) → list_all is_inner w ≡ true → slice_split is_blank (w ++ 32 ∷ rest) ≡ w ∷ slice_split is_blank rest
split_at [] rest h = refl
split_at (b ∷ w) rest h =
    let parts = and_parts (is_inner b) (list_all is_inner w) h in
    cond-false (is_blank b) _ _ (no_blank b parts.0) ∙ ap (onto_first b) (split_at w rest parts.1)

split_one : (w : List ℕ) → list_all is_inner w ≡ true → slice_split is_blank w ≡ w ∷ []
split_one [] h = refl
split_one (b ∷ w) h =
    let parts = and_parts (is_inner b) (list_all is_inner w) h in
    cond-false (is_blank b) _ _ (no_blank b parts.0) ∙ ap (onto_first b) (split_one w parts.1)

-- words with blanks between them are cut into these words
split_joined : (w : List ℕ) (ws : List (List ℕ)) → AreWords (w ∷ ws) → slice_split is_blank (join_with_byte 32 (w ∷ ws)) ≡ w ∷ ws
split_joined w [] h = split_one w h.0.inner
split_joined w (next ∷ ws) h = split_at w (join_with_byte 32 (next ∷ ws)) h.0.inner ∙ ap (λ rest. w ∷ rest) (split_joined next ws h.1)

-- ---- the line

-- a line is its words with blanks between them, and a newline
pub line_is : (w : List ℕ) (ws : List (List ℕ)) → line_of_words (w ∷ ws) ≡ join_with_byte 32 (w ∷ ws) ++ 10 ∷ []
line_is w [] = refl
line_is w (next ∷ ws) = ap (λ rest. w ++ 32 ∷ rest) (line_is next ws) ∙ sym (append_assoc w (32 ∷ join_with_byte 32 (next ∷ ws)) (10 ∷ []))

last_is : (text : List ℕ) → length (text ++ 10 ∷ []) - 1 ≡ length text
last_is text = omega (arith, length-append text (10 ∷ []))

ends : (text : List ℕ) → ends_well (text ++ 10 ∷ []) ≡ true
ends text = ap (λ k. get_or (text ++ 10 ∷ []) k 0 == 10) (last_is text) ∙ ap (λ b. b == 10) (get_or-append_seam text 10 [] 0)

front : (text : List ℕ) → take (length (text ++ 10 ∷ []) - 1) (text ++ 10 ∷ []) ≡ text
front text = ap (λ k. take k (text ++ 10 ∷ [])) (last_is text) ∙ take-append_seam text (10 ∷ [])

whole_text : {R : Type 0} (f : List (List ℕ) → Option R) (text : List ℕ) → whole f (text ++ 10 ∷ []) ≡ f (slice_split is_blank text)
whole_text f text = cond-true (ends_well (text ++ 10 ∷ [])) _ _ (ends text) ∙ ap (λ t. f (slice_split is_blank t)) (front text)

-- a line says what its words say
pub whole-line_of_words : {R : Type 0} (f : List (List ℕ) → Option R) (w : List ℕ) (ws : List (List ℕ)) → AreWords (w ∷ ws) → whole f (line_of_words (w ∷ ws)) ≡ f (w ∷ ws)
whole-line_of_words f w ws h = ap (whole f) (line_is w ws) ∙ whole_text f (join_with_byte 32 (w ∷ ws)) ∙ ap f (split_joined w ws h)

-- ---- lines of a text

-- a line without a newline in it is cut off in front of the others
pub lines_of-line : (text rest : List ℕ) → list_all (λ b. not (b == 10)) text ≡ true → lines_of (text ++ 10 ∷ rest) ≡ (text ++ 10 ∷ []) ∷ lines_of rest
lines_of-line [] rest h = refl
lines_of-line (b ∷ text) rest h =
    let parts = and_parts (not (b == 10)) (list_all (λ b. not (b == 10)) text) h in
    let here : (b == 10) ≡ false = grind (arith, nat_tests) in
    cond-false (b == 10) _ _ here ∙ ap (longer b) (lines_of-line text rest parts.1)
