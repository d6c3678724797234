-- Numbered things at places whose numbers rise, with gaps between them.
use Rattle.std.proofs.Common.{◌≡◌, ℕ, zero, suc, ◌<◌, ◌≤◌, ◌==◌, Bool, true, false, not, nat_lt, List, [], ◌∷◌, ◌++◌, Option, Some, None, length, filter, find, drop, get_or, slice_get, slice_set, is_some, option_map, refl, sym, ap, subst, ◌∙◌, arith}
use Rattle.std.specs.Prelude.{All}
use Rattle.std.specs.List.Sorted.{IsNonDecreasingBy, IsPartitionPoint}
use Rattle.std.proofs.lemmas.Bool.Decides.{nat_tests}
use Rattle.std.proofs.lemmas.Option.{slice_get_within, slice_get-get_or, get_or_from_slice_get}
use Rattle.std.proofs.lemmas.List.Elements.{All-head, All-tail}
use Rattle.sqlx_pool_places.specs.declared.rising_places.Place.{Place}
use Rattle.sqlx_pool_places.specs.declared.rising_places.Place.TheVariants.{Here, Gap}
use Rattle.sqlx_pool_places.specs.Rising.{thing_in, number_at, things_at, AreAbove, AreBelow, IsRising, IsNowhere, IsNowhereElse}

-- a thing is there
abbrev pub is_taken : {X : Type 0} → Place X → Bool
is_taken p = is_some (thing_in p)

module _ {X : Type 0} (number : X → ℕ) where
  -- ---- numbers that rise

  pub above-at : (n : ℕ) (ps : List (Place X)) (i : ℕ) (p : Place X) → AreAbove number n ps → slice_get ps i ≡ Some p → n < number_at number p
  above-at n [] i p above e = absurd cc
  above-at n (q ∷ rest) zero p above e = let here : q ≡ p = cc in subst (λ r. n < number_at number r) here above.0
  above-at n (q ∷ rest) (suc i) p above e = above-at n rest i p above.1 e

  -- places further on have greater numbers
  rising-at : (ps : List (Place X)) (i j : ℕ) (p q : Place X) → IsRising number ps → slice_get ps i ≡ Some p → slice_get ps j ≡ Some q → i < j → number_at number p < number_at number q
  rising-at [] i j p q rising a b l = absurd cc
  rising-at (r ∷ rest) zero zero p q rising a b l = absurd (omega (arith, l))
  rising-at (r ∷ rest) zero (suc j) p q rising a b l = let here : r ≡ p = cc in subst (λ s. number_at number s < number_at number q) here (above-at (number_at number r) rest j q rising.0 b)
  rising-at (r ∷ rest) (suc i) zero p q rising a b l = absurd (omega (arith, l))
  rising-at (r ∷ rest) (suc i) (suc j) p q rising a b l = rising-at rest i j p q rising.1 a b (omega (arith, l))

  -- one place alone has a number
  same-place : (ps : List (Place X)) (i j : ℕ) (p q : Place X) → IsRising number ps → slice_get ps i ≡ Some p → slice_get ps j ≡ Some q → number_at number p ≡ number_at number q → i ≡ j
  same-place ps i j p q rising a b e = grind (arith, nat_tests, rising-at ps i j p q rising a b, rising-at ps j i q p rising b a, e)

  only_place : (n : ℕ) (ps : List (Place X)) (g i : ℕ) (x : X) (o : Option (Place X)) → IsRising number ps → slice_get ps g ≡ o → option_map (number_at number) o ≡ Some n → slice_get ps i ≡ Some (Here x) → number x ≡ n → i ≡ g
  only_place n ps g i x None rising there e at is = absurd cc
  only_place n ps g i x (Some p) rising there e at is = let same : number_at number p ≡ n = cc in same-place ps i g (Here x) p rising at there (is ∙ sym same)

  -- a thing stands at no place but the one that has its number
  pub only-place : (n : ℕ) (ps : List (Place X)) (g : ℕ) → IsRising number ps → option_map (number_at number) (slice_get ps g) ≡ Some n → IsNowhereElse number n ps g
  only-place n ps g rising e = λ i x at is. only_place n ps g i x (slice_get ps g) rising refl e at is

  above-get : (n : ℕ) (ps : List (Place X)) (j : ℕ) (d : Place X) → AreAbove number n ps → j < length ps → n < number_at number (get_or ps j d)
  above-get n [] j d above l = absurd (omega (arith, l))
  above-get n (p ∷ rest) zero d above l = above.0
  above-get n (p ∷ rest) (suc j) d above l = above-get n rest j d above.1 (omega (arith, l))

  pub rises : (ps : List (Place X)) → IsRising number ps → IsNonDecreasingBy (number_at number) ps
  rises [] rising i j d l m = absurd (omega (arith, m))
  rises (p ∷ rest) rising zero zero d l m = omega arith
  rises (p ∷ rest) rising zero (suc j) d l m = let above = above-get (number_at number p) rest j d rising.0 (omega (arith, m)) in omega (arith, above)
  rises (p ∷ rest) rising (suc i) zero d l m = absurd (omega (arith, l))
  rises (p ∷ rest) rising (suc i) (suc j) d l m = rises rest rising.1 i j d (omega (arith, l)) (omega (arith, m))

  -- nor at one but the first that has no smaller number
  pub point-place : (n : ℕ) (ps : List (Place X)) (i : ℕ) → IsRising number ps → IsPartitionPoint (λ y. nat_lt (number_at number y) n ≡ true) (λ y. nat_lt (number_at number y) n ≡ false) ps i → IsNowhereElse number n ps i
  point-place n ps i rising point = λ j x at is.
      let there = slice_get_within ps j (Here x) at in
      let here = get_or_from_slice_get ps j (Here x) (Here x) at in
      let smaller : j < i → number x < n = λ l. (let s = point.0 j (Here x) (omega arith) l in let t : nat_lt (number x) n ≡ true = ap (λ p. nat_lt (number_at number p) n) (sym here) ∙ s in grind (arith, nat_tests, t)) in
      let greater : i < j → n < number x = λ l. (
      let q = get_or ps i (Here x) in
      let s = point.1 i (Here x) (omega arith) (omega (arith, there, l)) in
      let r = rising-at ps i j q (Here x) rising (slice_get-get_or ps i (Here x) (omega (arith, there, l))) at l in
      grind (arith, nat_tests, s, r)) in
      grind (arith, nat_tests, smaller, greater, is)

  -- ---- edits that keep the numbers rising

  above-set : (n : ℕ) (ps : List (Place X)) (i : ℕ) (p : Place X) → AreAbove number n ps → n < number_at number p → AreAbove number n (slice_set ps i p)
  above-set n [] i p above l = tt
  above-set n (q ∷ rest) zero p above l = (l, above.1)
  above-set n (q ∷ rest) (suc i) p above l = (above.0, above-set n rest i p above.1 l)

  pub rising-set : (ps : List (Place X)) (i : ℕ) (q p : Place X) → IsRising number ps → slice_get ps i ≡ Some q → number_at number p ≡ number_at number q → IsRising number (slice_set ps i p)
  rising-set [] i q p rising at same = tt
  rising-set (r ∷ rest) zero q p rising at same = let here : r ≡ q = cc in (subst (λ n. AreAbove number n rest) (ap (number_at number) here ∙ sym same) rising.0, rising.1)
  rising-set (r ∷ rest) (suc i) q p rising at same =
      let l = above-at (number_at number r) rest i q rising.0 at in
      (above-set (number_at number r) rest i p rising.0 (rw same l), rising-set rest i q p rising.1 at same)

  above-closed : (n : ℕ) (ps : List (Place X)) → AreAbove number n ps → AreAbove number n (filter is_taken ps)
  above-closed n [] above = tt
  above-closed n (Here x ∷ rest) above = (above.0, above-closed n rest above.1)
  above-closed n (Gap m ∷ rest) above = above-closed n rest above.1

  pub rising-closed : (ps : List (Place X)) → IsRising number ps → IsRising number (filter is_taken ps)
  rising-closed [] rising = tt
  rising-closed (Here x ∷ rest) rising = (above-closed (number x) rest rising.0, rising-closed rest rising.1)
  rising-closed (Gap n ∷ rest) rising = rising-closed rest rising.1

  pub things-closed : (ps : List (Place X)) → things_at (filter is_taken ps) ≡ things_at ps
  things-closed [] = refl
  things-closed (Here x ∷ rest) = ap (λ l. x ∷ l) (things-closed rest)
  things-closed (Gap n ∷ rest) = things-closed rest

  above-push : (n : ℕ) (ps : List (Place X)) (p : Place X) → AreAbove number n ps → n < number_at number p → AreAbove number n (ps ++ p ∷ [])
  above-push n [] p above l = (l, tt)
  above-push n (q ∷ rest) p above l = (above.0, above-push n rest p above.1 l)

  pub rising-push : (ps : List (Place X)) (p : Place X) → IsRising number ps → AreBelow number (number_at number p) ps → IsRising number (ps ++ p ∷ [])
  rising-push [] p rising below = (tt, tt)
  rising-push (q ∷ rest) p rising below = (above-push (number_at number q) rest p rising.0 below.0, rising-push rest p rising.1 below.1)

  pub things-push : (ps : List (Place X)) (x : X) → things_at (ps ++ Here x ∷ []) ≡ things_at ps ++ x ∷ []
  things-push [] x = refl
  things-push (Here y ∷ rest) x = ap (λ l. y ∷ l) (things-push rest x)
  things-push (Gap n ∷ rest) x = things-push rest x

  -- ---- gaps at the ends

  above-front : (n : ℕ) (ps : List (Place X)) (p : Place X) → AreAbove number n (ps ++ p ∷ []) → AreAbove number n ps
  above-front n [] p above = tt
  above-front n (q ∷ rest) p above = (above.0, above-front n rest p above.1)

  pub rising-front : (ps : List (Place X)) (p : Place X) → IsRising number (ps ++ p ∷ []) → IsRising number ps
  rising-front [] p rising = tt
  rising-front (q ∷ rest) p rising = (above-front (number_at number q) rest p rising.0, rising-front rest p rising.1)

  pub things-front : (ps : List (Place X)) (p : Place X) → is_taken p ≡ false → things_at (ps ++ p ∷ []) ≡ things_at ps
  things-front [] (Here x) gap = absurd cc
  things-front [] (Gap n) gap = refl
  things-front (Here x ∷ rest) p gap = ap (λ l. x ∷ l) (things-front rest p gap)
  things-front (Gap m ∷ rest) p gap = things-front rest p gap

  -- where the last place has a smaller number, each has
  pub below-last : (n : ℕ) (ps : List (Place X)) (i : ℕ) (p : Place X) → IsRising number ps → suc i ≡ length ps → slice_get ps i ≡ Some p → number_at number p < n → AreBelow number n ps
  below-last n [] i p rising e at l = tt
  below-last n (q ∷ []) zero p rising e at l = let here : q ≡ p = cc in (subst (λ r. number_at number r < n) (sym here) l, tt)
  below-last n (q ∷ []) (suc i) p rising e at l = absurd cc
  below-last n (q ∷ r ∷ rest) zero p rising e at l = absurd (omega (arith, e))
  below-last n (q ∷ r ∷ rest) (suc i) p rising e at l =
      let more = below-last n (r ∷ rest) i p rising.1 (omega (arith, e)) at l in
      (omega (arith, rising.0.0, more.0), more)

  -- where the things have smaller numbers, and the last place has none, a gap is there
  pub last-gap : (n : ℕ) (ps : List (Place X)) (p : Place X) → All (λ x. number x < n) (things_at (ps ++ p ∷ [])) → n ≤ number_at number p → is_taken p ≡ false
  last-gap n [] (Here x) all l = absurd (let s = All-head (λ x. number x < n) x [] all in omega (arith, s, l))
  last-gap n [] (Gap m) all l = refl
  last-gap n (Here x ∷ rest) p all l = last-gap n rest p (All-tail (λ x. number x < n) x (things_at (rest ++ p ∷ [])) all) l
  last-gap n (Gap m ∷ rest) p all l = last-gap n rest p all l

  pub above-nowhere : (n : ℕ) (ps : List (Place X)) → AreAbove number n ps → IsNowhere number n ps
  above-nowhere n ps above = λ i x at. let l = above-at n ps i (Here x) above at in grind (arith, nat_tests, l)

  -- ---- a thing at its place

  -- where none has the number, all are others
  pub all-others : (n : ℕ) (ps : List (Place X)) → IsNowhere number n ps → filter (λ x. not (n == number x)) (things_at ps) ≡ things_at ps
  all-others n [] none = refl
  all-others n (Here x ∷ rest) none =
      let here : (n == number x) ≡ false = none 0 x refl in
      rw here (ap (λ l. x ∷ l) (all-others n rest (λ i y e. none (suc i) y e)))
  all-others n (Gap m ∷ rest) none = all-others n rest (λ i y e. none (suc i) y e)

  -- the others are left, where a thing of the number becomes a gap
  pub ended-at : (n : ℕ) (ps : List (Place X)) (i : ℕ) (x : X) → IsRising number ps → slice_get ps i ≡ Some (Here x) → number x ≡ n → things_at (slice_set ps i (Gap n)) ≡ filter (λ y. not (n == number y)) (things_at ps)
  ended-at n [] i x rising at is = absurd cc
  ended-at n (Gap m ∷ rest) zero x rising at is = absurd cc
  ended-at n (Gap m ∷ rest) (suc i) x rising at is = ended-at n rest i x rising.1 at is
  ended-at n (Here y ∷ rest) zero x rising at is =
      let here : y ≡ x = cc in
      let of : number y ≡ n = ap number here ∙ is in
      let same : (n == number y) ≡ true = grind (arith, nat_tests, of) in
      rw same (sym (all-others n rest (above-nowhere n rest (subst (λ m. AreAbove number m rest) of rising.0))))
  ended-at n (Here y ∷ rest) (suc i) x rising at is =
      let l = above-at (number y) rest i (Here x) rising.0 at in
      let other : (n == number y) ≡ false = grind (arith, nat_tests, l, is) in
      rw other (ap (λ r. y ∷ r) (ended-at n rest i x rising.1 at is))

  -- the things that come after a place
  pub next-here : (ps : List (Place X)) (i : ℕ) (x : X) → slice_get ps i ≡ Some (Here x) → slice_get (things_at (drop i ps)) 0 ≡ Some x
  next-here [] i x at = absurd cc
  next-here (p ∷ rest) zero x at = let here : p ≡ Here x = cc in rw here refl
  next-here (p ∷ rest) (suc i) x at = next-here rest i x at

  -- a gap is passed by
  pub next-gap : (ps : List (Place X)) (i n : ℕ) → slice_get ps i ≡ Some (Gap n) → things_at (drop i ps) ≡ things_at (drop (suc i) ps)
  next-gap [] i n at = absurd cc
  next-gap (p ∷ rest) zero n at = let here : p ≡ Gap n = cc in rw here refl
  next-gap (p ∷ rest) (suc i) n at = next-gap rest i n at

  -- the first that isn't below a number is the first behind the places of smaller numbers
  pub first-behind : (n : ℕ) (ps : List (Place X)) (i : ℕ) → ((j : ℕ) (p : Place X) → slice_get ps j ≡ Some p → j < i → number_at number p < n) → ((j : ℕ) (p : Place X) → slice_get ps j ≡ Some p → i ≤ j → n ≤ number_at number p)
      → slice_get (things_at (drop i ps)) 0 ≡ find (λ x. not (nat_lt (number x) n)) (things_at ps)
  first-behind n [] zero below from = refl
  first-behind n [] (suc i) below from = refl
  first-behind n (Here x ∷ rest) zero below from =
      let no : nat_lt (number x) n ≡ false = let l = from 0 (Here x) refl (omega arith) in grind (arith, nat_tests, l) in
      rw no refl
  first-behind n (Gap m ∷ rest) zero below from = first-behind n rest zero (λ j p at l. absurd (omega (arith, l))) (λ j p at l. from (suc j) p at (omega arith))
  first-behind n (Here x ∷ rest) (suc i) below from =
      let yes : nat_lt (number x) n ≡ true = let l = below 0 (Here x) refl (omega arith) in grind (arith, nat_tests, l) in
      rw yes (first-behind n rest i (λ j p at l. below (suc j) p at (omega (arith, l))) (λ j p at l. from (suc j) p at (omega (arith, l))))
  first-behind n (Gap m ∷ rest) (suc i) below from = first-behind n rest i (λ j p at l. below (suc j) p at (omega (arith, l))) (λ j p at l. from (suc j) p at (omega (arith, l)))

  pub first-at-point : (n : ℕ) (ps : List (Place X)) (i : ℕ) → IsPartitionPoint (λ y. nat_lt (number_at number y) n ≡ true) (λ y. nat_lt (number_at number y) n ≡ false) ps i
      → slice_get (things_at (drop i ps)) 0 ≡ find (λ x. not (nat_lt (number x) n)) (things_at ps)
  first-at-point n ps i point = first-behind n ps i
      (λ j p at l. let here = get_or_from_slice_get ps j p p at in let s = point.0 j p (omega arith) l in let t : nat_lt (number_at number p) n ≡ true = ap (λ q. nat_lt (number_at number q) n) (sym here) ∙ s in grind (arith, nat_tests, t))
      (λ j p at l. let here = get_or_from_slice_get ps j p p at in let there = slice_get_within ps j p at in let s = point.1 j p l there in let t : nat_lt (number_at number p) n ≡ false = ap (λ q. nat_lt (number_at number q) n) (sym here) ∙ s in grind (arith, nat_tests, t))
