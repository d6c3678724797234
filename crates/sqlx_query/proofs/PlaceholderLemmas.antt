-- Placeholders and arguments, one for one.
use Rattle.std.proofs.Common.{◌≡◌, ℕ, ◌+◌, ◌≤◌, List, [], ◌∷◌, ◌++◌, refl, sym, ap, ◌∙◌, arith}
use Rattle.std.proofs.lemmas.List.{append-nil, append_assoc}
use Rattle.sqlx_query_drafts.specs.Builder.{Piece, Text, Bound, Draft, text_of_pieces, piece_text, arguments_of, placeholders, with_piece, with_pieces, AddsOneEach, Gains, CountsPlaceholders, NumbersPlaceholders, AppendsTexts}
use Rattle.sqlx_query.proofs.DraftLemmas.{arguments-with_pieces}

text-with_pieces : {L : Type 0} (d : Draft L) (ps : List (Piece L)) → (with_pieces d ps).text ≡ d.text ++ text_of_pieces ps
text-with_pieces d [] = sym (append-nil d.text)
text-with_pieces d (p ∷ ps) = text-with_pieces (with_piece d p) ps ∙ append_assoc d.text (piece_text p) (text_of_pieces ps)

initial-with_pieces : {L : Type 0} (d : Draft L) (ps : List (Piece L)) → (with_pieces d ps).initial ≡ d.initial
initial-with_pieces d [] = refl
initial-with_pieces d (p ∷ ps) = initial-with_pieces (with_piece d p) ps

-- the last of the bound values, and what comes before and after it
arguments_of-append : {L : Type 0} (list : L) (ps qs : List (Piece L)) → arguments_of (ps ++ qs) list ≡ arguments_of qs (arguments_of ps list)
arguments_of-append list [] qs = refl
arguments_of-append list (Text t ∷ ps) qs = arguments_of-append list ps qs
arguments_of-append list (Bound placeholder adds ∷ ps) qs = arguments_of-append (adds list) ps qs

module _ {L : Type 0} (count : L → ℕ) (first : ℕ → L → L) where
  counted : (list : L) (ps : List (Piece L)) → AddsOneEach count first list ps → count (arguments_of ps list) ≡ count list + placeholders ps
  counted list [] a = omega arith
  counted list (Text t ∷ ps) a = counted list ps a
  counted list (Bound placeholder adds ∷ ps) a = omega (arith, a.0.0, counted (adds list) ps a.1)

  kept : (list : L) (ps : List (Piece L)) → AddsOneEach count first list ps → (n : ℕ) → n ≤ count list → first n (arguments_of ps list) ≡ first n list
  kept list [] a n below = refl
  kept list (Text t ∷ ps) a n below = kept list ps a n below
  kept list (Bound placeholder adds ∷ ps) a n below = kept (adds list) ps a.1 n (omega (arith, a.0.0, below)) ∙ a.0.1 n below

  before_and_after : (list : L) (ps qs : List (Piece L)) → AddsOneEach count first list (ps ++ qs) → AddsOneEach count first list ps × AddsOneEach count first (arguments_of ps list) qs
  before_and_after list [] qs a = (tt, a)
  before_and_after list (Text t ∷ ps) qs a = before_and_after list ps qs a
  before_and_after list (Bound placeholder adds ∷ ps) qs a = let rest = before_and_after (adds list) ps qs a.1 in ((a.0, rest.0), rest.1)

  of_gains : (before now : Draft L) (ps : List (Piece L)) → Gains count first before ps now → now.arguments ≡ arguments_of ps before.arguments
  of_gains before now ps a = ap (λ d. d.arguments) a.1 ∙ arguments-with_pieces before ps

  -- one argument for each placeholder
  pub counts : CountsPlaceholders count first
  counts before now ps a = ap count (of_gains before now ps a) ∙ counted before.arguments ps a.0

  -- the texts, one behind the other
  pub appends : AppendsTexts count first
  appends before now ps a = (ap (λ d. d.text) a.1 ∙ text-with_pieces before ps, ap (λ d. d.initial) a.1 ∙ initial-with_pieces before ps)

  -- a placeholder's number is that of its argument
  pub numbers : ((n : ℕ) (list : L) → count list ≤ n → first n list ≡ list) → NumbersPlaceholders count first
  numbers first_of_all before now ps qs placeholder adds a =
      let parts = before_and_after before.arguments ps (Bound placeholder adds ∷ qs) a.0 in
      let mid : L = arguments_of ps before.arguments in
      let n : ℕ = count before.arguments + placeholders ps + 1 in
      let many : count (adds mid) ≡ n = omega (arith, parts.1.0.0, counted before.arguments ps parts.0) in
      let last : now.arguments ≡ arguments_of qs (adds mid) = of_gains before now (ps ++ Bound placeholder adds ∷ qs) a ∙ arguments_of-append before.arguments ps (Bound placeholder adds ∷ qs) in
      ap (first n) last ∙ kept (adds mid) qs parts.1.1 n (omega (arith, many)) ∙ first_of_all n (adds mid) (omega (arith, many))
