-- Counts of lists that were joined, pushed to or filtered.
use Rattle.std.proofs.Common.{◌≡◌, ℕ, ◌+◌, ◌≤◌, List, [], ◌∷◌, ◌++◌, filter, arith, Bool, true, false, cond, count_by, if◌then◌else◌}
use Rattle.std.proofs.lemmas.List.Sums.{sum_by-append, sum_by-cons}

-- one where the test holds, else none
abbrev pub one : {X : Type 0} → (X → Bool) → X → ℕ
one p x = cond (p x) 1 0

pub count-append : {X : Type 0} (p : X → Bool) (xs ys : List X) → count_by p (xs ++ ys) ≡ count_by p xs + count_by p ys
count-append p xs ys = sum_by-append (λ x. cond (p x) 1 0) xs ys

pub count-cons : {X : Type 0} (p : X → Bool) (x : X) (xs : List X) → count_by p (x ∷ xs) ≡ one p x + count_by p xs
count-cons p x xs = sum_by-cons (λ x. cond (p x) 1 0) x xs

pub count-among : {X : Type 0} (p : X → Bool) (front : List X) (x : X) (back : List X) → count_by p (front ++ x ∷ back) ≡ count_by p front + one p x + count_by p back
count-among p front x back = let e = count-append p front (x ∷ back) in let f = count-cons p x back in omega (arith, e, f)

pub count-push : {X : Type 0} (p : X → Bool) (xs : List X) (x : X) → count_by p (xs ++ x ∷ []) ≡ count_by p xs + one p x
count-push p xs x = let e = count-among p xs x [] in omega (arith, e)

-- a filter counts no more
filter_at : {X : Type 0} (p : X → Bool) (x : X) (xs ys : List X) (b : Bool) → count_by p ys ≤ count_by p xs → count_by p (if b then x ∷ ys else ys) ≤ count_by p (x ∷ xs)
filter_at p x xs ys true h = let e = count-cons p x ys in let f = count-cons p x xs in omega (arith, e, f, h)
filter_at p x xs ys false h = let f = count-cons p x xs in omega (arith, f, h)

pub count-filter : {X : Type 0} (p q : X → Bool) (xs : List X) → count_by p (filter q xs) ≤ count_by p xs
count-filter p q [] = omega arith
count-filter p q (x ∷ xs) = filter_at p x xs (filter q xs) (q x) (count-filter p q xs)
