-- Lent links at their places.
use Rattle.std.proofs.Common.{◌≡◌, ℕ, zero, suc, ◌==◌, cond, List, [], ◌∷◌, length, get_or, slice_get, slice_set, Option, Some, None, refl, sym, ap, ◌∙◌, arith}
use Rattle.sqlx_pool_places.specs.Numbered.{items_at, has_number, HasNone, IsFirstAt}
use Rattle.sqlx_pool_marks.proofs.ListFacts.{same_number}
use Rattle.sqlx_pool_lists.specs.MaintenanceSteps.{without_first}

module _ {X : Type 0} (number : X → ℕ) where
  -- where none has the number, none leaves
  pub without-none : (n : ℕ) (places : List (Option X)) → HasNone number n places (length places) → without_first (has_number number n) (items_at places) ≡ items_at places
  without-none n [] f = refl
  without-none n (Some x ∷ rest) f = rw (f 0 x refl (omega arith)) (ap (λ l. x ∷ l) (without-none n rest (λ i y e lt. f (suc i) y e (omega (arith, lt)))))
  without-none n (None ∷ rest) f = without-none n rest (λ i y e lt. f (suc i) y e (omega (arith, lt)))

  passes-same : {A : Type 0} (n : ℕ) (x y : A) → cond (n == n) x y ≡ x
  passes-same n x y = rw (same_number n) refl

  -- and the first that has it leaves a gap
  pub without-first : (n : ℕ) (places : List (Option X)) (p : ℕ) → IsFirstAt number n places p → items_at (slice_set places p None) ≡ without_first (has_number number n) (items_at places)
  without-first n [] p at = absurd (let e = at.stands in cc)
  without-first n (Some x ∷ rest) zero at =
      let here : x ≡ at.thing = let e = at.stands in cc in
      rw (here, at.is) (sym (passes-same n (items_at rest) (at.thing ∷ without_first (has_number number n) (items_at rest))))
  without-first n (None ∷ rest) zero at = absurd (let e = at.stands in cc)
  without-first n (Some x ∷ rest) (suc p) at =
      rw (at.first 0 x refl (omega arith)) (ap (λ l. x ∷ l) (without-first n rest p (record { thing = at.thing; stands = at.stands; is = at.is; first = λ i y e lt. at.first (suc i) y e (omega (arith, lt)) })))
  without-first n (None ∷ rest) (suc p) at = without-first n rest p (record { thing = at.thing; stands = at.stands; is = at.is; first = λ i y e lt. at.first (suc i) y e (omega (arith, lt)) })

-- what stands at a place is what is read there
pub standing : {Y : Type 0} (xs : List Y) (i : ℕ) (y d : Y) → slice_get xs i ≡ Some y → d ≡ get_or xs i d → d ≡ y
standing [] i y d e r = absurd cc
standing (x ∷ xs) zero y d e r = r ∙ (let same : x ≡ y = cc in same)
standing (x ∷ xs) (suc i) y d e r = standing xs i y d e r
