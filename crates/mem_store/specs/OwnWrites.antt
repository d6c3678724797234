-- A connection's own writes, as they stand at their places.
use Rattle.std.specs.Prelude.{◌≡◌, ℕ, ℤ, List, [], ◌∷◌, Option, Some, None, slice_get}
use Rattle.std.specs.Int.{cast_unsigned, w64}
use Rattle.std.specs.Int.RustNames.{FitsSigned}
use Rattle.std.specs.Ordering.{int_cmp}
use Rattle.std.specs.FinMap.{find}

-- the number of a write: the bits of its key
abbrev pub number_of : ℤ × Option ℤ → ℕ
number_of write = cast_unsigned w64 write.0

-- each key is an `i64` and stands once
abbrev pub StandOnce : List (ℤ × Option ℤ) → Type 0
StandOnce [] = Unit {0}
StandOnce (write ∷ writes) = (FitsSigned w64 write.0 × (find int_cmp write.0 writes ≡ None)) × StandOnce writes

-- A write of the key stands at a place.
pub record StandsAt (key : ℤ) (places : List (Option (ℤ × Option ℤ))) (place : ℕ) : Type 0 where
  pub value : Option ℤ
  pub stands : slice_get places place ≡ Some (Some (key, value))
