-- What bytes say as a script of a language, and which line is the first bad one.
use Rattle.std.specs.Prelude.{◌≡◌, ℕ, ◌+◌, ◌≤◌, List, [], ◌∷◌, ◌++◌, length, Option, Some, None}
use Rattle.sqlx_lines.specs.Words.{lines_of}

-- What the lines of a language say. F is what a first line says, E an event.
pub record Grammar (F E : Type 0) : Type 0 where
  -- what a first line says, newline and all
  pub first_of : List ℕ → Option F
  -- what a line after the first says behind these events
  pub event_of : F → List E → List ℕ → Option E

-- Events, and the number of the first bad line after them, if there is one.
pub record Reading (E : Type 0) : Type 0 where
  pub events : List E
  pub bad : Option ℕ

-- the reading with an event in front
abbrev pub with_event : {E : Type 0} → E → Reading E → Reading E
with_event event reading = record { events = event ∷ reading.events; bad = reading.bad }

-- Line n: it is no event, or rest says how it goes on.
abbrev pub reading_at : {E : Type 0} → ℕ → (E → Reading E) → Option E → Reading E
reading_at n rest None = record { events = []; bad = Some n }
reading_at n rest (Some event) = with_event event (rest event)

-- what these lines say, of which the first has number n and stands behind these events
unfoldable pub reading_from : {F E : Type 0} → Grammar F E → F → ℕ → List E → List (List ℕ) → Reading E
reading_from g first n done [] = record { events = []; bad = None }
reading_from g first n done (line ∷ lines) = reading_at n (λ event. reading_from g first (n + 1) (done ++ event ∷ []) lines) (g.event_of first done line)

-- what the first line says, and what the lines after it say
pub record Script (F E : Type 0) : Type 0 where
  pub first : F
  pub lines : Reading E

-- the script of a first line and of lines after it
abbrev pub script_after : {F E : Type 0} → Grammar F E → Option F → List (List ℕ) → Option (Script F E)
script_after g None lines = None
script_after g (Some first) lines = Some (record { first = first; lines = reading_from g first 2 [] lines })

-- what lines say; None where the first is bad, or there is none
unfoldable pub script_lines : {F E : Type 0} → Grammar F E → List (List ℕ) → Option (Script F E)
script_lines g [] = None
script_lines g (line ∷ lines) = script_after g (g.first_of line) lines

-- what bytes say as a script
abbrev pub script_of : {F E : Type 0} → Grammar F E → List ℕ → Option (Script F E)
script_of g bytes = script_lines g (lines_of bytes)

-- the number of the first bad line
abbrev pub bad_line : {F E : Type 0} → Option (Script F E) → Option ℕ
bad_line None = Some 1
bad_line (Some script) = script.lines.bad

-- the number of the first bad line, which is 1 for no bytes; None where no line is bad
abbrev pub first_bad : {F E : Type 0} → Grammar F E → List ℕ → Option ℕ
first_bad g bytes = bad_line (script_of g bytes)

-- how many bytes a script may have
abbrev pub limit : ℕ
limit = 1048576

-- The bytes are this script, and no line is bad.
pub record IsScript {F E : Type 0} (g : Grammar F E) (bytes : List ℕ) (script : Script F E) : Type 0 where
  pub short : length bytes ≤ limit
  pub reads : script_of g bytes ≡ Some script
  pub good : script.lines.bad ≡ None
