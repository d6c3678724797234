-- What a summary still lacks, in the words of a statement.
use Rattle.std.proofs.Common.{◌≡◌, ℕ, zero, suc, ◌+◌, ◌-◌, ◌<◌, ◌≤◌, ◌==◌, Bool, true, false, not, List, [], ◌∷◌, ◌++◌, take, drop, length, get_or, refl, sym, ap, ◌∙◌, arith}
use Rattle.std.specs.Bool.{if◌then◌else◌}
use Rattle.std.specs.Char.{is_whitespace}
use Rattle.std.proofs.lemmas.List.{at_drop_more}
use Rattle.sqlx_text.specs.Summary.{with_word, cut, words_of, after_blanks, joined, begun, unwritten}

-- a summary that no word may begin in lacks nothing outside of a word
unwritten_done : (cs : List ℕ) → unwritten false 0 cs ≡ []
unwritten_done [] = refl
unwritten_done (c ∷ cs) =
    elim (is_whitespace c) as (λ white. (if white then unwritten false 0 cs else []) ≡ []) [
      | true ↦ unwritten_done cs
      | false ↦ refl
    ]

pub unwritten_stopped : (in_word : Bool) (left : ℕ) (cs : List ℕ) → not in_word ≡ true → left ≡ 0 → unwritten in_word left cs ≡ []
unwritten_stopped true left cs outside none = cc
unwritten_stopped false left cs outside none = rw none (unwritten_done cs)

-- the words that may still begin, the first of all with no blank before it
spaced : ℕ → List (List ℕ) → List ℕ
spaced left words = if left == 4 then joined words else after_blanks words

spaced_nil : (left : ℕ) → spaced left [] ≡ []
unfolding spaced
spaced_nil left = elim (left == 4) as (λ first. (if first then joined [] else after_blanks []) ≡ []) [ true ↦ refl | false ↦ refl ]

spaced_begun : (left c : ℕ) (cs : List ℕ) (words : List (List ℕ)) → 0 < left → begun left c (cs ++ after_blanks words) ≡ spaced left ((c ∷ cs) ∷ words)
unfolding spaced
spaced_begun left c cs words some =
    let other : (left == 0) ≡ false = grind arith in
    rw other (elim (left == 4) as (λ first. (if first then c ∷ (cs ++ after_blanks words) else 32 ∷ c ∷ (cs ++ after_blanks words)) ≡ (if first then joined ((c ∷ cs) ∷ words) else after_blanks ((c ∷ cs) ∷ words))) [ true ↦ refl | false ↦ refl ])

spaced_few : (left : ℕ) (words : List (List ℕ)) → left < 4 → spaced left words ≡ after_blanks words
unfolding spaced
spaced_few left words few = let other : (left == 4) ≡ false = grind arith in rw other refl

abbrev nothing : List (List ℕ)
nothing = []

no_words : (left : ℕ) → take left nothing ≡ nothing
no_words zero = refl
no_words (suc left) = refl

begun_word : (c : ℕ) (cs : List ℕ) (words : List (List ℕ)) (unwritten_in_word : ℕ → List ℕ) (left : ℕ) → left ≤ 4 → ((k : ℕ) → k < 4 → unwritten_in_word k ≡ cs ++ after_blanks (take k words)) → begun left c (unwritten_in_word (left - 1)) ≡ spaced left (take left ((c ∷ cs) ∷ words))
begun_word c cs words unwritten_in_word zero few lacks = sym (spaced_nil 0)
begun_word c cs words unwritten_in_word (suc left) few lacks =
    let one_less : suc left - 1 ≡ left = omega arith in
    rw (one_less, lacks left (omega arith)) (spaced_begun (suc left) c cs (take left words) (omega arith))

abbrev cut_at : Bool → ℕ → List ℕ → List ℕ × List (List ℕ)
cut_at white c cs = if white then ([], words_of cs) else (c ∷ (cut cs).0, (cut cs).1)

-- inside of a word the summary lacks the rest of it and the next words, and else the next words
lacking : (cs : List ℕ) (left : ℕ) → (left < 4 → unwritten true left cs ≡ (cut cs).0 ++ after_blanks (take left (cut cs).1)) × (left ≤ 4 → unwritten false left cs ≡ spaced left (take left (words_of cs)))
lacking [] left = ((λ _. rw (no_words left) refl), (λ _. rw (no_words left) (sym (spaced_nil left))))
lacking (c ∷ cs) left =
    elim (is_whitespace c) as (λ white.
    (left < 4 → (if white then unwritten false left cs else c ∷ unwritten true left cs)
    ≡ (cut_at white c cs).0 ++ after_blanks (take left (cut_at white c cs).1))
    × (left ≤ 4 → (if white then unwritten false left cs else begun left c (unwritten true (left - 1) cs))
    ≡ spaced left (take left (with_word (cut_at white c cs).0 (cut_at white c cs).1)))) [
      | true ↦ ((λ few. (lacking cs left).1 (omega arith) ∙ spaced_few left (take left (words_of cs)) few), (lacking cs left).1)
      | false ↦ ((λ few. ap (λ more. c ∷ more) ((lacking cs left).0 few)), (λ few. begun_word c (cut cs).0 (cut cs).1 (λ k. unwritten true k cs) left few (λ k less. (lacking cs k).0 less)))
    ]

-- before the first character a summary lacks the first four words
pub unwritten-start : (cs : List ℕ) → unwritten false 4 cs ≡ joined (take 4 (words_of cs))
unfolding spaced
unwritten-start cs = (lacking cs 4).1 (omega arith)

-- and before the next character what it lacks before that and the rest
pub unwritten-drop : (in_word : Bool) (left : ℕ) (cs : List ℕ) (n c : ℕ) → (n < length cs) × (c ≡ get_or cs n c) → unwritten in_word left (drop n cs) ≡ unwritten in_word left (c ∷ drop (n + 1) cs)
unwritten-drop in_word left cs n c next = at_drop_more (unwritten in_word left) cs n c next.0 ∙ ap (λ d. unwritten in_word left (d ∷ drop (n + 1) cs)) (sym next.1)
