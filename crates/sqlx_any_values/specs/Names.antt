-- The names of columns with their positions.
use Rattle.std.specs.Prelude.{ℕ, ◌<◌, List, Option, All, map}
use Rattle.std.specs.Map.{lookup, values_of}
use Rattle.std.specs.Str.{bytes_eq}
use Rattle.indexmap.specs.IndexMap.{insert_entry}

-- names, each with its position
abbrev pub Names : Type 0
Names = List (List ℕ × ℕ)

-- the entries by the texts of their keys
abbrev pub by_texts : {K V : Type 0} → (K → List ℕ) → List (K × V) → List (List ℕ × V)
by_texts text_of entries = map (λ e. (text_of e.0, e.1)) entries

-- the position of a name, where it has one
abbrev pub position_of : List ℕ → Names → Option ℕ
position_of name names = lookup (bytes_eq name) names

-- the names with a position for one: it replaces an earlier one, and a new name comes last
abbrev pub with_position : Names → List ℕ → ℕ → Names
with_position names name position = insert_entry bytes_eq names name position

-- each position is below the number of columns
abbrev pub AreBelow : Names → ℕ → Type 0
AreBelow names columns = All (λ position. position < columns) (values_of names)
