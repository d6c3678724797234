-- Rising numbers.
use Rattle.std.proofs.Common.{◌≡◌, ℕ, ◌<◌, ◌==◌, not, List, [], ◌∷◌, ◌++◌, Less, refl, arith}
use Rattle.std.specs.Prelude.{filter}
use Rattle.std.specs.List.{AllByRecursion}
use Rattle.std.specs.List.Sorted.{IsStrictlySortedBy}
use Rattle.std.specs.Ordering.{nat_cmp}
use Rattle.std.proofs.lemmas.Bool.Decides.{nat_tests}
use Rattle.std.proofs.lemmas.Map.Keys.{sorted_head, sorted_tail}

-- the numbers rise
abbrev pub IsRising : List ℕ → Type 0
IsRising ks = IsStrictlySortedBy nat_cmp ks

-- each is above k
abbrev pub AreAbove : ℕ → List ℕ → Type 0
AreAbove k ks = AllByRecursion (λ n. k < n) ks

less : (k n : ℕ) → nat_cmp k n ≡ Less → k < n
less k n e = grind (arith, nat_tests)

above_all : (k : ℕ) (ks : List ℕ) → AllByRecursion (λ n. nat_cmp k n ≡ Less) ks → AreAbove k ks
above_all k [] all = tt
above_all k (n ∷ ks) all = (less k n all.0, above_all k ks all.1)

-- all behind the first are above it
pub rest_above : (k : ℕ) (ks : List ℕ) → IsRising (k ∷ ks) → AreAbove k ks
rest_above k ks rising = above_all k ks (sorted_head nat_cmp k ks rising)

pub rest_rises : (k : ℕ) (ks : List ℕ) → IsRising (k ∷ ks) → IsRising ks
rest_rises k ks rising = sorted_tail nat_cmp k ks rising

-- ---- the calls

-- without a number that isn't there they are the same
pub kept : (t : ℕ) (ks : List ℕ) → AreAbove t ks → filter (λ n. not (n == t)) ks ≡ ks
kept t [] above = refl
kept t (k ∷ ks) above = grind (arith, nat_tests, above.0, kept t ks above.1)

-- a greater one may join them
pub joined-rises : (t : ℕ) (ks : List ℕ) → IsRising ks → AllByRecursion (λ n. n < t) ks → IsRising (ks ++ t ∷ [])
unfolding IsStrictlySortedBy
joined-rises t [] rising all = (tt, tt)
joined-rises t (k ∷ ks) rising all = (first_below t k ks rising.0 all.0, joined-rises t ks rising.1 all.1)
  where
    first_below : (t k : ℕ) (ks : List ℕ) → AllByRecursion (λ n. nat_cmp k n ≡ Less) ks → k < t → AllByRecursion (λ n. nat_cmp k n ≡ Less) (ks ++ t ∷ [])
    first_below t k [] above l = (grind (arith, nat_tests, l), tt)
    first_below t k (n ∷ ks) above l = (above.0, first_below t k ks above.1 l)
