-- What is written for a script.
use Rattle.std.specs.Prelude.{ℕ, List, [], ◌∷◌, ◌++◌, flat_map, Option, Some, None}
use Rattle.sqlx_lines.specs.Scripts.{Script}
use Rattle.sqlx_player.specs.Language.{Rules, Pairs}
use Rattle.sqlx_player.specs.Pieces.{pieces_of}

-- the pairs, and then each of these events with its answer
unfoldable pub pairs_after : {F E R : Type 0} → Rules F E R → F → Pairs E R → List E → Pairs E R
pairs_after rules first pairs [] = pairs
pairs_after rules first pairs (event ∷ events) = pairs_after rules first (pairs ++ (event, rules.answer first pairs event) ∷ []) events

-- each event of a script, before a bad line, with its answer
abbrev pub pairs_of : {F E R : Type 0} → Rules F E R → Script F E → Pairs E R
pairs_of rules script = pairs_after rules script.first [] script.lines.events

-- what is written for the replies
abbrev pub replies_text : {F E R : Type 0} → Rules F E R → Pairs E R → List ℕ
replies_text rules pairs = flat_map (λ pair. rules.text_of pair.1) pairs

-- the closing line of a script
abbrev pub closing_text : {F E R : Type 0} → Rules F E R → Script F E → List ℕ
closing_text rules script = rules.closing script.first (pairs_of rules script)

-- what is written for a script without a bad line
abbrev pub output_of : {F E R : Type 0} → Rules F E R → Script F E → List ℕ
output_of rules script = replies_text rules (pairs_of rules script) ++ closing_text rules script

-- what is written of the lines before the first bad one
abbrev pub replies_due : {F E R : Type 0} → Rules F E R → Option (Script F E) → List ℕ
replies_due rules None = []
replies_due rules (Some script) = replies_text rules (pairs_of rules script)

-- the closing line, where no line is bad
abbrev pub closing_due : {F E R : Type 0} → Rules F E R → Option ℕ → Script F E → List ℕ
closing_due rules None script = closing_text rules script
closing_due rules (Some n) script = []

-- all that is to be written for these bytes
abbrev pub output_due : {F E R : Type 0} → Rules F E R → Option (Script F E) → List ℕ
output_due rules None = []
output_due rules (Some script) = replies_text rules (pairs_of rules script) ++ closing_due rules script.lines.bad script

-- ---- by which writes

-- the replies, a piece each
abbrev pub replies_pieces : {F E R : Type 0} → Rules F E R → Pairs E R → List (List ℕ)
replies_pieces rules pairs = flat_map (λ pair. pieces_of (rules.text_of pair.1)) pairs

-- what is written for these bytes, a piece for each reply and one for the closing line
abbrev pub pieces_due : {F E R : Type 0} → Rules F E R → Option (Script F E) → List (List ℕ)
pieces_due rules None = []
pieces_due rules (Some script) = replies_pieces rules (pairs_of rules script) ++ pieces_of (closing_text rules script)
