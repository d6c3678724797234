-- Numbers in order, the first that passes a test, and how many do.
use Rattle.std.proofs.Common.{◌≡◌, ℕ, zero, suc, ◌+◌, ◌-◌, ◌<◌, ◌≤◌, Bool, true, false, not, ◌&&◌, cond, List, [], ◌∷◌, ◌++◌, count_by, Option, Some, None, refl, sym, ap, ◌∙◌, arith}
use Rattle.std.specs.List.{sum_by}
use Rattle.std.proofs.lemmas.List.Sums.{sum_by-append}
use Rattle.std.proofs.lemmas.Bool.{cond-true, cond-false}
use Rattle.sqlx_jobs_rules.specs.Jobs.{numbers_from, first_of}

pub numbers-cons : (a n : ℕ) → numbers_from a (suc n) ≡ a ∷ numbers_from (suc a) n
unfolding numbers_from
numbers-cons a n = refl

pub numbers-none : (a : ℕ) → numbers_from a 0 ≡ []
unfolding numbers_from
numbers-none a = refl

pub numbers-split : (a x y : ℕ) → numbers_from a (x + y) ≡ numbers_from a x ++ numbers_from (a + x) y
numbers-split a zero y =
    let from : a ≡ a + 0 = omega arith in
    let many : 0 + y ≡ y = omega arith in
    ap (numbers_from a) many ∙ ap (λ k. numbers_from k y) from ∙ ap (λ (ks : List ℕ). ks ++ numbers_from (a + 0) y) (sym (numbers-none a))
numbers-split a (suc x) y =
    let many : suc x + y ≡ suc (x + y) = omega arith in
    let from : suc a + x ≡ a + suc x = omega arith in
    ap (numbers_from a) many
    ∙ numbers-cons a (x + y)
    ∙ ap (λ (ks : List ℕ). a ∷ ks) (numbers-split (suc a) x y)
    ∙ ap (λ k. a ∷ (numbers_from (suc a) x ++ numbers_from k y)) from
    ∙ ap (λ (ks : List ℕ). ks ++ numbers_from (a + suc x) y) (sym (numbers-cons a x))

-- one number more
pub numbers-push : (n : ℕ) → numbers_from 1 (n + 1) ≡ numbers_from 1 n ++ (n + 1) ∷ []
numbers-push n =
    let from : 1 + n ≡ n + 1 = omega arith in
    numbers-split 1 n 1
    ∙ ap (λ k. numbers_from 1 n ++ numbers_from k 1) from
    ∙ ap (λ (ks : List ℕ). numbers_from 1 n ++ ks) (numbers-cons (n + 1) 0 ∙ ap (λ (ks : List ℕ). (n + 1) ∷ ks) (numbers-none (suc (n + 1))))

pub count-push : (p : ℕ → Bool) (n : ℕ) → count_by p (numbers_from 1 (n + 1)) ≡ count_by p (numbers_from 1 n) + cond (p (n + 1)) 1 0
count-push p n =
    let one = λ (k : ℕ). cond (p k) 1 0 in
    let last : sum_by one (numbers_from 1 n) + sum_by one ((n + 1) ∷ []) ≡ sum_by one (numbers_from 1 n) + cond (p (n + 1)) 1 0 = omega arith in
    ap (sum_by one) (numbers-push n) ∙ sum_by-append one (numbers_from 1 n) ((n + 1) ∷ []) ∙ last

pub count-none : (p : ℕ → Bool) → count_by p (numbers_from 1 0) ≡ 0
count-none p = ap (λ (ks : List ℕ). count_by p ks) (numbers-none 1)

-- ---- the first

past : (p : ℕ → Bool) (x : ℕ) (o : Option ℕ) → cond (p x) (Some x) o ≡ None → (p x ≡ false) × (o ≡ None)
past p x o h = by_test (p x) refl h
  where
    no_some : Some x ≡ None → ⊥
    no_some e = cc

    by_test : (b : Bool) → p x ≡ b → cond b (Some x) o ≡ None → (p x ≡ false) × (o ≡ None)
    by_test true is e = absurd (no_some e)
    by_test false is e = (is, e)

first-behind : (p : ℕ → Bool) (xs ys : List ℕ) → first_of p xs ≡ None → first_of p (xs ++ ys) ≡ first_of p ys
first-behind p [] ys h = refl
first-behind p (x ∷ xs) ys h =
    let parts = past p x (first_of p xs) h in
    cond-false (p x) (Some x) (first_of p (xs ++ ys)) parts.0 ∙ first-behind p xs ys parts.1

pub first-none : (p : ℕ → Bool) → first_of p (numbers_from 1 0) ≡ None
first-none p = ap (first_of p) (numbers-none 1)

-- one more that doesn't pass
pub first-past : (p : ℕ → Bool) (n : ℕ) → first_of p (numbers_from 1 n) ≡ None → p (n + 1) ≡ false → first_of p (numbers_from 1 (n + 1)) ≡ None
first-past p n h fails =
    ap (first_of p) (numbers-push n) ∙ first-behind p (numbers_from 1 n) ((n + 1) ∷ []) h ∙ cond-false (p (n + 1)) (Some (n + 1)) None fails

-- one more that does
pub first-found : (p : ℕ → Bool) (n many : ℕ) → n < many → first_of p (numbers_from 1 n) ≡ None → p (n + 1) ≡ true → first_of p (numbers_from 1 many) ≡ Some (n + 1)
first-found p n many lt h passes =
    let parts : many ≡ n + suc (many - n - 1) = omega (arith, lt) in
    let from : 1 + n ≡ n + 1 = omega arith in
    ap (λ k. first_of p (numbers_from 1 k)) parts
    ∙ ap (first_of p) (numbers-split 1 n (suc (many - n - 1)))
    ∙ first-behind p (numbers_from 1 n) (numbers_from (1 + n) (suc (many - n - 1))) h
    ∙ ap (λ k. first_of p (numbers_from k (suc (many - n - 1)))) from
    ∙ ap (first_of p) (numbers-cons (n + 1) (many - n - 1))
    ∙ cond-true (p (n + 1)) (Some (n + 1)) (first_of p (numbers_from (suc (n + 1)) (many - n - 1))) passes

-- the first that passes is one of them
below : (p : ℕ → Bool) (a n j : ℕ) → first_of p (numbers_from a n) ≡ Some j → j < a + n
below p a zero j h = absurd (no_some (ap (first_of p) (sym (numbers-none a)) ∙ h))
  where
    no_some : None ≡ Some j → ⊥
    no_some e = cc
below p a (suc n) j h = by_test (below p (suc a) n j) (p a) refl
  where
    by_test : (first_of p (numbers_from (suc a) n) ≡ Some j → j < suc a + n) → (b : Bool) → p a ≡ b → j < a + suc n
    by_test again true is =
        let found : Some a ≡ Some j = sym (cond-true (p a) (Some a) (first_of p (numbers_from (suc a) n)) is) ∙ sym (ap (first_of p) (numbers-cons a n)) ∙ h in
        let same : a ≡ j = cc in omega (arith, same)
    by_test again false is =
        let later : j < suc a + n = again (sym (cond-false (p a) (Some a) (first_of p (numbers_from (suc a) n)) is) ∙ sym (ap (first_of p) (numbers-cons a n)) ∙ h) in
        omega (arith, later)

pub first-within : (p : ℕ → Bool) (n j : ℕ) → first_of p (numbers_from 1 n) ≡ Some j → j ≤ n
first-within p n j h = let lt : j < 1 + n = below p 1 n j h in omega (arith, lt)

-- ---- ready

-- a job that is held isn't ready
pub ready_held : (d h : Bool) → h ≡ true → false ≡ (not d && not h)
ready_held true h is = refl
ready_held false h is = ap not (sym is)

-- one that isn't is ready unless it is done
pub ready_free : (d h : Bool) → h ≡ false → not d ≡ (not d && not h)
ready_free true h is = refl
ready_free false h is = ap not (sym is)
