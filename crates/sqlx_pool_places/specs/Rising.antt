-- Numbered things at places in the order of their numbers, some of which are gaps that keep a number.
use Rattle.std.specs.Prelude.{◌≡◌, ℕ, ◌<◌, ◌==◌, false, ⊤, List, [], ◌∷◌, Option, Some, None, slice_get}
use Rattle.std.specs.List.{AllByRecursion, filter_map}
use Rattle.sqlx_pool_places.specs.declared.rising_places.Place.{Place}
use Rattle.sqlx_pool_places.specs.declared.rising_places.Place.TheVariants.{Here, Gap}

-- the thing at a place
abbrev pub thing_in : {X : Type 0} → Place X → Option X
thing_in (Here x) = Some x
thing_in (Gap n) = None

-- the things at these places
abbrev pub things_at : {X : Type 0} → List (Place X) → List X
things_at places = filter_map thing_in places

module _ {X : Type 0} (number : X → ℕ) where
  -- the number of the thing that is or was at a place
  abbrev pub number_at : Place X → ℕ
  number_at (Here x) = number x
  number_at (Gap n) = n

  -- each has a greater number
  abbrev pub AreAbove : ℕ → List (Place X) → Type 0
  AreAbove n places = AllByRecursion (λ p. n < number_at p) places

  -- each has a smaller number
  abbrev pub AreBelow : ℕ → List (Place X) → Type 0
  AreBelow n places = AllByRecursion (λ p. number_at p < n) places

  -- the numbers rise, those of the gaps too
  abbrev pub IsRising : List (Place X) → Type 0
  IsRising [] = ⊤
  IsRising (p ∷ rest) = AreAbove (number_at p) rest × IsRising rest

  -- a thing of a number stands at no place but this one
  abbrev pub IsNowhereElse : ℕ → List (Place X) → ℕ → Type 0
  IsNowhereElse n places place = (i : ℕ) (x : X) → slice_get places i ≡ Some (Here x) → number x ≡ n → i ≡ place

  -- no thing of a number stands at any place
  abbrev pub IsNowhere : ℕ → List (Place X) → Type 0
  IsNowhere n places = (i : ℕ) (x : X) → slice_get places i ≡ Some (Here x) → (n == number x) ≡ false
