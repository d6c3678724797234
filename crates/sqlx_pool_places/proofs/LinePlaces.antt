-- The numbers of those that wait, at their places.
use Rattle.std.proofs.Common.{◌≡◌, ℕ, zero, suc, ◌==◌, Bool, true, false, not, List, [], ◌∷◌, Some, slice_get, refl, ap, arith}
use Rattle.std.specs.Prelude.{filter}
use Rattle.std.proofs.lemmas.Bool.Decides.{nat_tests}
use Rattle.sqlx_pool_places.specs.declared.rising_places.Place.{Place}
use Rattle.sqlx_pool_places.specs.declared.rising_places.Place.TheVariants.{Here, Gap}
use Rattle.sqlx_pool_places.specs.Rising.{things_at, IsNowhere}
use Rattle.sqlx_pool_places.proofs.Edge.{has, left_out}

-- the others, told either way
pub others : (t : ℕ) (ks : List ℕ) → filter (λ n. not (t == n)) ks ≡ left_out t ks
others t [] = refl
others t (k ∷ ks) = by (others t ks) (k == t) refl
  where
    by : filter (λ n. not (t == n)) ks ≡ left_out t ks → (b : Bool) → (k == t) ≡ b → filter (λ n. not (t == n)) (k ∷ ks) ≡ left_out t (k ∷ ks)
    by rest true e = let f : (t == k) ≡ true = grind (arith, nat_tests, e) in rw (e, f) rest
    by rest false e = let f : (t == k) ≡ false = grind (arith, nat_tests, e) in rw (e, f) (ap (λ r. k ∷ r) rest)

-- one that stands at a place waits
pub has-there : (ps : List (Place ℕ)) (i t : ℕ) → slice_get ps i ≡ Some (Here t) → has t (things_at ps) ≡ true
has-there [] i t at = absurd cc
has-there (Here k ∷ ps) zero t at = let here : k ≡ t = cc in let same : (k == t) ≡ true = grind (arith, nat_tests, here) in rw same refl
has-there (Gap n ∷ ps) zero t at = absurd cc
has-there (Here k ∷ ps) (suc i) t at = let rest = has-there ps i t at in grind (arith, rest)
has-there (Gap n ∷ ps) (suc i) t at = has-there ps i t at

-- one that stands at none doesn't
pub has-not : (ps : List (Place ℕ)) (t : ℕ) → IsNowhere (λ n. n) t ps → has t (things_at ps) ≡ false
has-not [] t none = refl
has-not (Here k ∷ ps) t none =
    let here : (t == k) ≡ false = none 0 k refl in
    let other : (k == t) ≡ false = grind (arith, nat_tests, here) in
    rw other (has-not ps t (λ i x at. none (suc i) x at))
has-not (Gap n ∷ ps) t none = has-not ps t (λ i x at. none (suc i) x at)
