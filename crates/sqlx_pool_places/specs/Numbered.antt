-- Numbered things at places, some of which are gaps.
use Rattle.std.specs.Prelude.{◌≡◌, ℕ, ◌<◌, ◌==◌, Bool, false, List, [], ◌∷◌, Option, Some, None, slice_get}

-- the things at these places
abbrev pub items_at : {X : Type 0} → List (Option X) → List X
items_at [] = []
items_at (Some x ∷ rest) = x ∷ items_at rest
items_at (None ∷ rest) = items_at rest

module _ {X : Type 0} (number : X → ℕ) where
  -- it has the number
  abbrev pub has_number : ℕ → X → Bool
  has_number n x = n == number x

  -- none has the number before a place
  abbrev pub HasNone : ℕ → List (Option X) → ℕ → Type 0
  HasNone n places end = (i : ℕ) (x : X) → slice_get places i ≡ Some (Some x) → i < end → has_number n x ≡ false

  -- The first that has the number stands at a place.
  pub record IsFirstAt (n : ℕ) (places : List (Option X)) (place : ℕ) : Type 0 where
    pub thing : X
    pub stands : slice_get places place ≡ Some (Some thing)
    pub is : number thing ≡ n
    pub first : HasNone n places place

  -- each thing's place is noted at its number
  abbrev pub AreNoted : List (Option X) → (ℕ → Option ℕ) → Type 0
  AreNoted places noted = (i : ℕ) (x : X) → slice_get places i ≡ Some (Some x) → noted (number x) ≡ Some i

  -- What was noted still is, and so is what stands at a place.
  pub record IsNotedToo (before after : ℕ → Option ℕ) (thing : Option X) (place : ℕ) : Type 0 where
    pub kept : (q j : ℕ) → before q ≡ Some j → after q ≡ Some j
    pub one_more : (x : X) → thing ≡ Some x → after (number x) ≡ Some place
