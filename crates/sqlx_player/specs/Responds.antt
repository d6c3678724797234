-- What the calls of a responder do, by its language and by the pairs that it stands for.
use Rattle.std.specs.Prelude.{◌≡◌, ℕ, ◌<◌, List, [], ◌∷◌, ◌++◌, length, Option, Some, None}
use Rattle.sqlx_lines.specs.Words.{first_line, behind_line}
use Rattle.sqlx_lines.specs.declared.first_line.FirstLine.{FirstLine}
use Rattle.sqlx_player.specs.Language.{Language, Pairs, events_of}
use Rattle.sqlx_lines.specs.Scripts.{limit}

-- what opening tells of a text: its first line says nothing, or the responder stands for what it says and no pair
abbrev pub Opens : {F E R A : Type 0} → Language F E R → (A → F → Pairs E R → Type 0) → List ℕ → Option (FirstLine A) → Type 0
Opens l Stands text None = l.grammar.first_of (first_line text) ≡ None
Opens {F} l Stands text (Some line) = (first : F) × (l.grammar.first_of (first_line text) ≡ Some first) × Stands line.says first [] × (line.behind.now ≡ behind_line text)

-- An event is due: a line says it behind the pairs that a responder stands for, and there were fewer of them than a script has bytes.
pub record IsDue {F E R : Type 0} (l : Language F E R) (Stands : F → Pairs E R → Type 0) (event : E) : Type 0 where
  pub first : F
  pub pairs : Pairs E R
  pub stands : Stands first pairs
  pub few : length pairs < limit
  pub line : List ℕ
  pub says : l.grammar.event_of first (events_of pairs) line ≡ Some event

-- what an answer does, where there were fewer pairs than a script has bytes: the reply's text is this, and the responder stands for the pair too
abbrev pub Answers : {F E R : Type 0} → Language F E R → (F → Pairs E R → Type 0) → (F → Pairs E R → Type 0) → E → List ℕ → Type 0
Answers {F} {E} {R} l Stood Stands event text = (first : F) (pairs : Pairs E R) → Stood first pairs → length pairs < limit
    → (text ≡ l.rules.text_of (l.rules.answer first pairs event)) × Stands first (pairs ++ (event, l.rules.answer first pairs event) ∷ [])

-- what closing does: this is the closing line, and the responder stands for what it did
abbrev pub Closes : {F E R : Type 0} → Language F E R → (F → Pairs E R → Type 0) → (F → Pairs E R → Type 0) → List ℕ → Type 0
Closes {F} {E} {R} l Stood Stands text = (first : F) (pairs : Pairs E R) → Stood first pairs → (text ≡ l.rules.closing first pairs) × Stands first pairs
