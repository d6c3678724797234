-- The first line of a text is the first of its lines, and its words stand in front of the text.
use Rattle.std.proofs.Common.{◌≡◌, ℕ, suc, ◌<◌, ◌≤◌, ◌-◌, ◌==◌, ◌||◌, Bool, true, false, cond, List, [], ◌∷◌, Option, None, length, refl, ap, ◌∙◌, arith}
use Rattle.std.specs.List.{onto_first}
use Rattle.sqlx_lines.specs.Words.{longer, lines_of, is_blank, ends_well, words_of, first_line, behind_line, has_newline, words_in_front, whole}

lines_case : (c : Bool) (b : ℕ) (text : List ℕ) → (0 < length text → lines_of text ≡ first_line text ∷ lines_of (behind_line text))
    → cond c ((b ∷ []) ∷ lines_of text) (longer b (lines_of text)) ≡ cond c (b ∷ []) (b ∷ first_line text) ∷ lines_of (cond c text (behind_line text))
lines_case true b text more = refl
lines_case false b [] more = refl
lines_case false b (d ∷ text) more = ap (longer b) (more (omega arith))

-- the lines of a text are its first line and those of the text behind it
pub lines_are : (text : List ℕ) → 0 < length text → lines_of text ≡ first_line text ∷ lines_of (behind_line text)
lines_are [] some = absurd (omega arith)
lines_are (b ∷ text) some = lines_case (b == 10) b text (lines_are text)

shorter_case : (c : Bool) (b : ℕ) (text : List ℕ) → (c || has_newline text) ≡ true → (has_newline text ≡ true → length (behind_line text) < length text)
    → length (cond c text (behind_line text)) < suc (length text)
shorter_case true b text some more = omega arith
shorter_case false b text some more = let less = more some in omega (arith, less)

-- the text behind a line is shorter
pub shorter : (text : List ℕ) → has_newline text ≡ true → length (behind_line text) < length text
shorter [] some = cc
shorter (b ∷ text) some = shorter_case (b == 10) b text some (shorter text)

one_less : (n : ℕ) → suc n - 1 ≡ n
one_less n = omega arith

cond_some : (c : Bool) (b : ℕ) (line : List ℕ) → cond c (b ∷ []) (b ∷ line) ≡ [] → ⊥
cond_some true b line h = cc
cond_some false b line h = cc

-- a byte in front of a line that has one leaves its end
ends_more : (b : ℕ) (line : List ℕ) → (line ≡ [] → ⊥) → ends_well (b ∷ line) ≡ ends_well line
ends_more b [] some = absurd (some refl)
ends_more b (c ∷ line) some = rw (one_less (suc (length line)), one_less (length line)) refl

ends_case : (c : Bool) (b : ℕ) (text : List ℕ) → (b == 10) ≡ c → ends_well (first_line text) ≡ has_newline text
    → ends_well (cond c (b ∷ []) (b ∷ first_line text)) ≡ (c || has_newline text)
ends_case true b text is more = is
ends_case false b [] is more = is
ends_case false b (d ∷ text) is more = ends_more b (first_line (d ∷ text)) (cond_some (d == 10) d (first_line text)) ∙ more

-- the first line of a text ends well where there is a newline
pub ends_first : (text : List ℕ) → ends_well (first_line text) ≡ has_newline text
ends_first [] = refl
ends_first (b ∷ text) = ends_case (b == 10) b text refl (ends_first text)

words_more : (b : ℕ) (line : List ℕ) → (line ≡ [] → ⊥) → words_of (b ∷ line) ≡ cond (is_blank b) ([] ∷ words_of line) (onto_first b (words_of line))
words_more b [] some = absurd (some refl)
words_more b (c ∷ line) some = rw (one_less (suc (length line)), one_less (length line)) refl

words_case : (c : Bool) (b : ℕ) (text : List ℕ) → (c || has_newline text) ≡ true → (has_newline text ≡ true → words_of (first_line text) ≡ words_in_front text)
    → words_of (cond c (b ∷ []) (b ∷ first_line text)) ≡ cond c ([] ∷ []) (cond (is_blank b) ([] ∷ words_in_front text) (onto_first b (words_in_front text)))
words_case true b text some more = refl
words_case false b [] some more = cc
words_case false b (d ∷ text) some more =
    words_more b (first_line (d ∷ text)) (cond_some (d == 10) d (first_line text)) ∙ ap (λ ws. cond (is_blank b) ([] ∷ ws) (onto_first b ws)) (more some)

-- the words of the first line stand in front
pub words_first : (text : List ℕ) → has_newline text ≡ true → words_of (first_line text) ≡ words_in_front text
words_first [] some = cc
words_first (b ∷ text) some = words_case (b == 10) b text some (words_first text)

whole_case : {R : Type 0} (f : List (List ℕ) → Option R) (text : List ℕ) (c : Bool) → has_newline text ≡ c → whole f (first_line text) ≡ cond c (f (words_in_front text)) None
whole_case f text true some = rw (ends_first text, some) (ap f (words_first text some))
whole_case f text false some = rw (ends_first text, some) refl

-- what the first line says is what the words in front say, where there is a newline
pub whole_first : {R : Type 0} (f : List (List ℕ) → Option R) (text : List ℕ) → has_newline text ≡ true → whole f (first_line text) ≡ f (words_in_front text)
whole_first f text some = whole_case f text true some

pub none_first : {R : Type 0} (f : List (List ℕ) → Option R) (text : List ℕ) → has_newline text ≡ false → whole f (first_line text) ≡ None
none_first f text none = whole_case f text false none

le_case : (c : Bool) (text : List ℕ) → length (behind_line text) ≤ length text → length (cond c text (behind_line text)) ≤ length text
le_case true text h = omega arith
le_case false text h = h

-- the text behind the first line is no longer
pub behind_le : (text : List ℕ) → length (behind_line text) ≤ length text
behind_le [] = omega arith
behind_le (b ∷ text) = let h = le_case (b == 10) text (behind_le text) in omega (arith, h)

-- and shorter, where there is a line
pub behind_shorter : (text : List ℕ) → 0 < length text → length (behind_line text) < length text
behind_shorter [] some = absurd (omega arith)
behind_shorter (b ∷ text) some = let h = le_case (b == 10) text (behind_le text) in omega (arith, h)
