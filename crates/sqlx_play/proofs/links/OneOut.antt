-- One element out of a list: what is counted and found of the others.
use Rattle.std.proofs.Common.{◌≡◌, ℕ, ◌+◌, ◌≤◌, ◌==◌, ◌||◌, Bool, true, false, cond, not, List, [], ◌∷◌, filter, find, count_by, Some, refl, sym, ap, ◌∙◌, arith}
use Rattle.std.specs.List.{list_any}
use Rattle.sqlx_pool_marks.proofs.ListFacts.{count_by-cons, filter_none, same_number, or-true, found_counts}

module _ {X : Type 0} (p : X → Bool) where
  -- the one that passes is counted beside the others
  pub count-out : (r : X → Bool) (xs : List X) (x : X) → find p xs ≡ Some x → count_by p xs ≤ 1 → count_by r xs ≡ count_by r (filter (λ y. not (p y)) xs) + cond (r x) 1 0
  count-out r [] x e one = absurd (cc)
  count-out r (w ∷ xs) x e one = by (λ k h. count-out r xs x k h) (p w) e one_here
    where
      one_here : cond (p w) 1 0 + count_by p xs ≤ 1
      one_here = let same = count_by-cons p w xs in omega (arith, one, same)

      by : (find p xs ≡ Some x → count_by p xs ≤ 1 → count_by r xs ≡ count_by r (filter (λ y. not (p y)) xs) + cond (r x) 1 0)
          → (b : Bool) → cond b (Some w) (find p xs) ≡ Some x → cond b 1 0 + count_by p xs ≤ 1
          → count_by r (w ∷ xs) ≡ count_by r (cond (not b) (w ∷ filter (λ y. not (p y)) xs) (filter (λ y. not (p y)) xs)) + cond (r x) 1 0
      by rest true k h =
          let same : w ≡ x = cc in
          let none : count_by p xs ≡ 0 = omega (arith, h) in
          let others : count_by r (filter (λ y. not (p y)) xs) ≡ count_by r xs = ap (count_by r) (filter_none p xs none) in
          let mine : cond {A = ℕ} (r w) 1 0 ≡ cond (r x) 1 0 = ap (λ (v : X). cond {A = ℕ} (r v) 1 0) same in
          let whole = count_by-cons r w xs in
          omega (arith, others, mine, whole)
      by rest false k h =
          let others = rest k (omega (arith, h)) in
          let whole = count_by-cons r w xs in
          let kept = count_by-cons r w (filter (λ y. not (p y)) xs) in
          omega (arith, others, whole, kept)

  or_swap : (a b c : Bool) → (a || (b || c)) ≡ ((a || b) || c)
  or_swap true b c = refl
  or_swap false b c = refl

  or_comm : (a b : Bool) → (a || b) ≡ (b || a)
  or_comm true true = refl
  or_comm true false = refl
  or_comm false true = refl
  or_comm false false = refl

  -- and asked beside the others
  pub any-out : (r : X → Bool) (xs : List X) (x : X) → find p xs ≡ Some x → count_by p xs ≤ 1 → list_any r xs ≡ (list_any r (filter (λ y. not (p y)) xs) || r x)
  any-out r [] x e one = absurd (cc)
  any-out r (w ∷ xs) x e one = by (λ k h. any-out r xs x k h) (p w) e (let same = count_by-cons p w xs in omega (arith, one, same))
    where
      by : (find p xs ≡ Some x → count_by p xs ≤ 1 → list_any r xs ≡ (list_any r (filter (λ y. not (p y)) xs) || r x))
          → (b : Bool) → cond b (Some w) (find p xs) ≡ Some x → cond b 1 0 + count_by p xs ≤ 1
          → (r w || list_any r xs) ≡ (list_any r (cond (not b) (w ∷ filter (λ y. not (p y)) xs) (filter (λ y. not (p y)) xs)) || r x)
      by rest true k h =
          let same : w ≡ x = cc in
          let none : count_by p xs ≡ 0 = omega (arith, h) in
          (λ i. r (same i) || list_any r (sym (filter_none p xs none) i)) ∙ or_comm (r x) (list_any r (filter (λ y. not (p y)) xs))
      by rest false k h = ap (λ (b : Bool). r w || b) (rest k (omega (arith, h))) ∙ or_swap (r w) (list_any r (filter (λ y. not (p y)) xs)) (r x)

-- what is found by another test is found by its number, where that is the only one
pub found-by_number : {X : Type 0} (number : X → ℕ) (test : X → Bool) (xs : List X) (x : X) → find test xs ≡ Some x → count_by (λ y. number x == number y) xs ≤ 1 → find (λ y. number x == number y) xs ≡ Some x
found-by_number number test [] x e one = absurd (cc)
found-by_number {X} number test (w ∷ xs) x e one = by (λ k h. found-by_number number test xs x k h) (test w) e (number x == number w) refl (let same = count_by-cons (λ (y : X). number x == number y) w xs in omega (arith, one, same))
  where
    by : (find test xs ≡ Some x → count_by (λ y. number x == number y) xs ≤ 1 → find (λ y. number x == number y) xs ≡ Some x)
        → (b : Bool) → cond b (Some w) (find test xs) ≡ Some x → (d : Bool) → (number x == number w) ≡ d → cond (number x == number w) 1 0 + count_by (λ y. number x == number y) xs ≤ 1
        → cond d (Some w) (find (λ y. number x == number y) xs) ≡ Some x
    by rest true k true is h = k
    by rest true k false is h =
        let same : w ≡ x = cc in
        let yes : (number x == number w) ≡ true = ap (λ (v : X). number x == number v) same ∙ same_number (number x) in
        let wrong : true ≡ false = sym yes ∙ is in
        absurd (cc)
    by rest false k true is h =
        let some = found_counts test (λ (y : X). number x == number y) xs x k (same_number (number x)) in
        let one : cond {A = ℕ} (number x == number w) 1 0 ≡ 1 = ap (λ (b : Bool). cond {A = ℕ} b 1 0) is in
        absurd (omega (arith, some, one, h))
    by rest false k false is h = rest k (omega (arith, h))

-- an element that passes one test passes the other
pub any-weaker : {X : Type 0} (p q : X → Bool) → ((x : X) → p x ≡ true → q x ≡ true) → (xs : List X) → list_any p xs ≡ true → list_any q xs ≡ true
any-weaker p q h [] e = absurd (cc)
any-weaker {X} p q h (x ∷ xs) e = by (λ k. any-weaker p q h xs k) (p x) refl e
  where
    by : (list_any p xs ≡ true → list_any q xs ≡ true) → (b : Bool) → p x ≡ b → (b || list_any p xs) ≡ true → (q x || list_any q xs) ≡ true
    by rest true is k = ap (λ (b : Bool). b || list_any q xs) (h x is)
    by rest false is k = ap (λ (b : Bool). q x || b) (rest k) ∙ or-true (q x)
