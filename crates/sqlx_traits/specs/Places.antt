-- Which column an index names, and what stands there.
use Rattle.std.specs.Prelude.{◌≡◌, ℕ, nat_lt, ⊤, List, [], ◌∷◌, ◌++◌, length, slice_get, Option, Some, None, Result, Ok, Err, if◌then◌else◌}
use Rattle.sqlx_text.specs.declared.error.Error.{Error}
use Rattle.sqlx_text.specs.declared.error.Error.TheVariants as error

-- the place of a position among so many columns
abbrev pub place_of_position : ℕ → ℕ → Result ℕ Error
place_of_position at len = if nat_lt at len then Ok at else Err (error.ColumnIndexOutOfBounds at len)

-- the place of a name, where it has a position
abbrev pub place_of_name : Option ℕ → List ℕ → Result ℕ Error
place_of_name (Some at) name = Ok at
place_of_name None name = Err (error.ColumnNotFound name)

-- a name in double quotes
abbrev pub in_quotes : List ℕ → List ℕ
in_quotes name = 34 ∷ name ++ 34 ∷ []

-- what stands at a place of a list
abbrev pub at_place : {A : Type 0} → List A → Result ℕ Error → Result A Error
at_place items (Err e) = Err e
at_place items (Ok at) = elim (slice_get items at) [ Some item ↦ Ok item | None ↦ Err (error.ColumnIndexOutOfBounds at (length items)) ]

-- an answer that is a value or want of memory
abbrev pub IsGiven : {A : Type 0} → Result A Error → Type 0
IsGiven (Ok item) = ⊤
IsGiven (Err e) = e ≡ error.OutOfMemory
