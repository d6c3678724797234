-- The words of a statement, and the summary that a log shows of it.
use Rattle.std.specs.Prelude.{ℕ, ◌-◌, ◌==◌, Bool, true, false, List, [], ◌∷◌, ◌++◌, take, if◌then◌else◌}
use Rattle.std.specs.Char.{is_whitespace}
use Rattle.std.specs.List.{flat_map}
use Rattle.std.specs.Str.{chars, encode_utf8_all}

-- a word and the words behind it, without the word where it is empty
abbrev pub with_word : List ℕ → List (List ℕ) → List (List ℕ)
with_word [] words = words
with_word (c ∷ cs) words = (c ∷ cs) ∷ words

-- what stands before the first white space of a text, and the words behind that
abbrev pub cut : List ℕ → List ℕ × List (List ℕ)
cut [] = ([], [])
cut (c ∷ cs) = if is_whitespace c then ([], with_word (cut cs).0 (cut cs).1) else (c ∷ (cut cs).0, (cut cs).1)

-- the words of a text: what stands between its white space
abbrev pub words_of : List ℕ → List (List ℕ)
words_of cs = with_word (cut cs).0 (cut cs).1

-- words with a blank before each
abbrev pub after_blanks : List (List ℕ) → List ℕ
after_blanks words = flat_map (λ word. 32 ∷ word) words

-- words with a blank between each and the next
abbrev pub joined : List (List ℕ) → List ℕ
joined [] = []
joined (word ∷ words) = word ++ after_blanks words

-- the first four words of a statement, with a blank between each and the next
abbrev pub summary_of : List ℕ → List ℕ
summary_of sql = encode_utf8_all (joined (take 4 (words_of (chars sql))))

-- a word that begins with c, behind a blank if it isn't the first, where one may begin
abbrev pub begun : ℕ → ℕ → List ℕ → List ℕ
begun left c more = if left == 0 then [] else (if left == 4 then c ∷ more else 32 ∷ c ∷ more)

-- what a summary still lacks before the characters cs: it is inside of a word or not, and so many words may begin
abbrev pub unwritten : Bool → ℕ → List ℕ → List ℕ
unwritten in_word left [] = []
unwritten in_word left (c ∷ cs) = if is_whitespace c then unwritten false left cs else (if in_word then c ∷ unwritten true left cs else begun left c (unwritten true (left - 1) cs))

-- a whole summary: what is written of it, and what it still lacks before the characters cs
abbrev pub whole_with : List ℕ → Bool → ℕ → List ℕ → List ℕ
whole_with written in_word left cs = written ++ encode_utf8_all (unwritten in_word left cs)
