-- What playing a script is: all of its output was written, and the responder stands for all events and replies.
use Rattle.std.specs.Prelude.{◌≡◌, ℕ, ◌<◌, length, List, [], ◌∷◌, ◌++◌, Option, Some, None}
use Rattle.std.specs.Io.KnownBytes.{Appends}
use Rattle.sqlx_lines.specs.Words.{lines_of}
use Rattle.sqlx_player.specs.declared.error.PlayError.{PlayError}
use Rattle.sqlx_player.specs.Language.{Language, Pairs}
use Rattle.sqlx_lines.specs.Scripts.{Grammar, limit, Script, IsScript, script_of, Reading, reading_from}
use Rattle.sqlx_player.specs.Pieces.{GrowsBy, pieces_of}
use Rattle.sqlx_player.specs.Output.{pairs_after, pairs_of, replies_text, output_of, replies_pieces, pieces_due}
use Rattle.sqlx_player.specs.Causes.{TookAll, WrotePart, TextCause}

-- ---- playing one event

-- The reply was written, and the responder stands for the event and its reply too.
abbrev pub Replies : {F E R : Type 0} → Language F E R → (F → Pairs E R → Type 0) → (F → Pairs E R → Type 0) → E → Option (List ℕ) → Option (List ℕ) → Type 0
Replies {F} {E} {R} l Stood Stands event before now = (first : F) (pairs : Pairs E R) → Stood first pairs → length pairs < limit
    → Appends before now (l.rules.text_of (l.rules.answer first pairs event)) × Stands first (pairs ++ (event, l.rules.answer first pairs event) ∷ [])

-- A front of the reply was written.
abbrev pub RepliesInPart : {F E R : Type 0} → Language F E R → (F → Pairs E R → Type 0) → E → Option (List ℕ) → Option (List ℕ) → Type 0
RepliesInPart {F} {E} {R} l Stood event before now = (first : F) (pairs : Pairs E R) → Stood first pairs → length pairs < limit → WrotePart before now (l.rules.text_of (l.rules.answer first pairs event))

-- The reply was handed out by one write, where that took it whole.
abbrev pub HandsReply : {F E R : Type 0} → Language F E R → (F → Pairs E R → Type 0) → E → Option (List (List ℕ)) → Option (List (List ℕ)) → Type 0
HandsReply {F} {E} {R} l Stood event before now = (first : F) (pairs : Pairs E R) → Stood first pairs → length pairs < limit → GrowsBy before now (pieces_of (l.rules.text_of (l.rules.answer first pairs event)))

-- ---- playing the lines after the first

-- what lines after the first say
abbrev pub reading_of : {F E : Type 0} → Grammar F E → F → List ℕ → Reading E
reading_of g first text = reading_from g first 2 [] (lines_of text)

-- the events of these lines, each with its answer
abbrev pub lines_pairs : {F E R : Type 0} → Language F E R → F → List ℕ → Pairs E R
lines_pairs l first text = pairs_after l.rules first [] (reading_of l.grammar first text).events

-- what is written for these lines
abbrev pub lines_text : {F E R : Type 0} → Language F E R → F → List ℕ → List ℕ
lines_text l first text = replies_text l.rules (lines_pairs l first text)

-- the pieces of these lines
abbrev pub lines_pieces : {F E R : Type 0} → Language F E R → F → List ℕ → List (List ℕ)
lines_pieces l first text = replies_pieces l.rules (lines_pairs l first text)

-- No line after the first is bad, the replies were written, and the responder is as it is after them.
pub record PlaysLines {F E R : Type 0} (l : Language F E R) (Stands : F → Pairs E R → Type 0) (text : List ℕ) (before now : Option (List ℕ)) (first : F) : Type 0 where
  pub good : (reading_of l.grammar first text).bad ≡ None
  pub written : Appends before now (lines_text l first text)
  pub stands : Stands first (lines_pairs l first text)

-- A line after the first is bad, and the replies before it were written.
pub record StopsAt {F E R : Type 0} (l : Language F E R) (text : List ℕ) (before now : Option (List ℕ)) (first : F) (n : ℕ) : Type 0 where
  pub bad : (reading_of l.grammar first text).bad ≡ Some n
  pub written : Appends before now (lines_text l first text)

-- Why the lines after the first were not played to their end.
abbrev pub LinesCause : {F E R : Type 0} → Language F E R → List ℕ → Option (List ℕ) → Option (List ℕ) → F → ℕ → ℕ → PlayError → Type 0
LinesCause l text before now first = TextCause (StopsAt l text before now first) (WrotePart before now (lines_text l first text))

-- ---- playing

-- The bytes are a script, its output was written, and the responder stands for all of its events and replies.
pub record Plays {F E R : Type 0} (l : Language F E R) (Stands : F → Pairs E R → Type 0) (bytes : List ℕ) (before now : Option (List ℕ)) : Type 0 where
  pub script : Script F E
  pub is_script : IsScript l.grammar bytes script
  pub written : Appends before now (output_of l.rules script)
  pub stands : Stands script.first (pairs_of l.rules script)

-- All was read, and it was answered by one write a reply and one for the closing line, where each took its piece whole.
pub record HandsScript {F E R : Type 0} (l : Language F E R) (left_before left_now : Option (List ℕ)) (before now : Option (List (List ℕ))) : Type 0 where
  pub bytes : List ℕ
  pub took : TookAll left_before left_now bytes
  pub pieces : GrowsBy before now (pieces_due l.rules (script_of l.grammar bytes))
