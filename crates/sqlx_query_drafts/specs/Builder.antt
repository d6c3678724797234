-- Statements that are built piece by piece.
use Rattle.std.specs.Prelude.{◌≡◌, ℕ, ◌+◌, ◌≤◌, Bool, true, false, List, [], ◌∷◌, ◌++◌, codes, take}
use Rattle.sqlx_traits.specs.Arguments.{AddsOne}

-- a piece of a statement: a text, or a bound value, as its placeholder and what it makes of the arguments
pub data Piece (L : Type 0) : Type 0 where
  Text : List ℕ → Piece L
  Bound : List ℕ → (L → L) → Piece L

-- a statement that is being built: the text that it began with, its text and its arguments, and whether a query was made of it
pub record Draft (L : Type 0) : Type 0 where
  pub initial : List ℕ
  pub text : List ℕ
  pub arguments : L
  pub built : Bool

-- a draft that begins with a text and arguments
abbrev pub fresh_draft : {L : Type 0} → List ℕ → L → Draft L
fresh_draft t list = record { initial = t; text = t; arguments = list; built = false }

-- what stands in the text for a piece
abbrev pub piece_text : {L : Type 0} → Piece L → List ℕ
piece_text (Text t) = t
piece_text (Bound placeholder adds) = placeholder

-- the arguments behind a piece
abbrev pub piece_arguments : {L : Type 0} → Piece L → L → L
piece_arguments (Text t) list = list
piece_arguments (Bound placeholder adds) list = adds list

-- the text of the pieces
abbrev pub text_of_pieces : {L : Type 0} → List (Piece L) → List ℕ
text_of_pieces [] = []
text_of_pieces (p ∷ ps) = piece_text p ++ text_of_pieces ps

-- the arguments behind the pieces
abbrev pub arguments_of : {L : Type 0} → List (Piece L) → L → L
arguments_of [] list = list
arguments_of (p ∷ ps) list = arguments_of ps (piece_arguments p list)

-- how many placeholders there are among the pieces
abbrev pub placeholders : {L : Type 0} → List (Piece L) → ℕ
placeholders [] = 0
placeholders (Text t ∷ ps) = placeholders ps
placeholders (Bound placeholder adds ∷ ps) = placeholders ps + 1

-- the draft with one more piece
abbrev pub with_piece : {L : Type 0} → Draft L → Piece L → Draft L
with_piece d p = record d { text = d.text ++ piece_text p; arguments = piece_arguments p d.arguments }

-- the draft with the pieces behind it, in order
abbrev pub with_pieces : {L : Type 0} → Draft L → List (Piece L) → Draft L
with_pieces d [] = d
with_pieces d (p ∷ ps) = with_pieces (with_piece d p) ps

-- each bound value among the pieces adds one argument behind those that are there
abbrev pub AddsOneEach : {L : Type 0} → (L → ℕ) → (ℕ → L → L) → L → List (Piece L) → Type 0
AddsOneEach count first list [] = Unit {0}
AddsOneEach count first list (Text t ∷ ps) = AddsOneEach count first list ps
AddsOneEach count first list (Bound placeholder adds ∷ ps) = AddsOne count first list (adds list) × AddsOneEach count first (adds list) ps

-- the second draft only has more text and more arguments, behind those of the first
pub record Extends {L : Type 0} (count : L → ℕ) (first : ℕ → L → L) (before now : Draft L) : Type 0 where
  pub initial : now.initial ≡ before.initial
  pub built : now.built ≡ before.built
  pub more : List ℕ
  pub text : now.text ≡ before.text ++ more
  pub enough : count before.arguments ≤ count now.arguments
  pub arguments : (n : ℕ) → n ≤ count before.arguments → first n now.arguments ≡ first n before.arguments

-- the draft, cut back to a length of its text and a number of arguments
abbrev pub cut_to : {L : Type 0} → (ℕ → L → L) → Draft L → ℕ → ℕ → Draft L
cut_to first d text_len arguments = record d { text = take text_len d.text; arguments = first arguments d.arguments }

-- an entry of a list: its piece, with the separator before it unless it is the first
abbrev pub entry : {L : Type 0} → Bool → List ℕ → Piece L → List (Piece L)
entry true separator p = Text separator ∷ p ∷ []
entry false separator p = p ∷ []

-- the opening parenthesis of a tuple, with the separator before it unless it is the first
abbrev pub opening : {L : Type 0} → Bool → List (Piece L)
opening later = entry later (codes ", ") (Text (codes "("))

-- a tuple: its pieces in parentheses, with the separator before it unless it is the first
abbrev pub tuple : {L : Type 0} → Bool → List (Piece L) → List (Piece L)
tuple later ps = opening later ++ (ps ++ Text (codes ")") ∷ [])

-- tuples, with the separator before each but the first, and before that too where others come before them
abbrev pub tuples_from : {L : Type 0} → Bool → List (List (Piece L)) → List (Piece L)
tuples_from later [] = []
tuples_from later (ps ∷ pss) = tuple later ps ++ tuples_from true pss

-- the tuples, in parentheses, with the separator between them
abbrev pub tuples_of : {L : Type 0} → List (List (Piece L)) → List (Piece L)
tuples_of pss = tuples_from false pss

-- the second draft is the first with the pieces behind it, each bound value of which adds one argument
abbrev pub Gains : {L : Type 0} → (L → ℕ) → (ℕ → L → L) → Draft L → List (Piece L) → Draft L → Type 0
Gains count first before ps now = AddsOneEach count first before.arguments ps × (now ≡ with_pieces before ps)

-- a piece that stands alone
abbrev pub alone : {L : Type 0} → Piece L → List (Piece L)
alone p = p ∷ []

-- the second draft gains a bound value, at the placeholder of the last argument that it has, and what stands around it
abbrev pub GainsBound : {L : Type 0} → (ℕ → List ℕ) → (L → ℕ) → (ℕ → L → L) → (Piece L → List (Piece L)) → (L → L) → Draft L → Draft L → Type 0
GainsBound placeholder count first around adds before now = Gains count first before (around (Bound (placeholder (count now.arguments)) adds)) now

-- the second draft gains a bound value as an entry of a list, with the separator before it unless it is the first
abbrev pub GainsEntry : {L : Type 0} → (ℕ → List ℕ) → (L → ℕ) → (ℕ → L → L) → Bool → List ℕ → (L → L) → Draft L → Draft L → Type 0
GainsEntry placeholder count first later separator adds before now = GainsBound placeholder count first (entry later separator) adds before now

-- the second draft is the first with some pieces behind it
pub record Appends {L : Type 0} (count : L → ℕ) (first : ℕ → L → L) (before now : Draft L) : Type 0 where
  pub pieces : List (Piece L)
  pub gains : Gains count first before pieces now

-- a draft that gains pieces has one argument more for each placeholder among them
abbrev pub CountsPlaceholders : {L : Type 0} → (L → ℕ) → (ℕ → L → L) → Type 0
CountsPlaceholders {L} count first = (before now : Draft L) (ps : List (Piece L)) → Gains count first before ps now
    → count now.arguments ≡ count before.arguments + placeholders ps

-- the arguments up to the one that has a placeholder's number are those that its bound value made
abbrev pub NumbersPlaceholders : {L : Type 0} → (L → ℕ) → (ℕ → L → L) → Type 0
NumbersPlaceholders {L} count first = (before now : Draft L) (ps qs : List (Piece L)) (placeholder : List ℕ) (adds : L → L)
    → Gains count first before (ps ++ Bound placeholder adds ∷ qs) now
    → first (count before.arguments + placeholders ps + 1) now.arguments ≡ adds (arguments_of ps before.arguments)

-- a draft that gains pieces has their texts behind its own, and the initial text stays
abbrev pub AppendsTexts : {L : Type 0} → (L → ℕ) → (ℕ → L → L) → Type 0
AppendsTexts {L} count first = (before now : Draft L) (ps : List (Piece L)) → Gains count first before ps now
    → (now.text ≡ before.text ++ text_of_pieces ps) × (now.initial ≡ before.initial)
