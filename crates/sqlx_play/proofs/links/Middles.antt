-- Lists with an element in the middle, and what tests find in a list.
use Rattle.std.proofs.Common.{◌≡◌, ℕ, ◌+◌, ◌≤◌, Bool, true, false, cond, ◌||◌, List, [], ◌∷◌, ◌++◌, map, count_by, length, All, refl, sym, ap, ◌∙◌, arith}
use Rattle.std.specs.List.{list_any, insert}
use Rattle.std.proofs.lemmas.Bool.{or_parts}
use Rattle.std.proofs.lemmas.List.Elements.{All-nil, All-cons, All-head, All-tail, All-weaker}
use Rattle.sqlx_pool_marks.proofs.ListFacts.{count_by-cons}

-- ---- truth values

or_swap : (a b c : Bool) → (a || (b || c)) ≡ (b || (a || c))
or_swap true true c = refl
or_swap true false c = refl
or_swap false b c = refl

pub bools_same : (a b : Bool) → (a ≡ true → b ≡ true) → (b ≡ true → a ≡ true) → a ≡ b
bools_same true b f g = sym (f refl)
bools_same false true f g = g refl
bools_same false false f g = refl

-- ---- an element in the middle

pub any-mid : {X : Type 0} (p : X → Bool) (ys : List X) (x : X) (zs : List X) → list_any p (ys ++ x ∷ zs) ≡ (p x || list_any p (ys ++ zs))
any-mid p [] x zs = refl
any-mid p (y ∷ ys) x zs = ap (λ b. p y || b) (any-mid p ys x zs) ∙ or_swap (p y) (p x) (list_any p (ys ++ zs))

pub count-mid : {X : Type 0} (p : X → Bool) (ys : List X) (x : X) (zs : List X) → count_by p (ys ++ x ∷ zs) ≡ cond (p x) 1 0 + count_by p (ys ++ zs)
count-mid p [] x zs = count_by-cons p x zs
count-mid p (y ∷ ys) x zs =
    let inner = count-mid p ys x zs in
    let one = count_by-cons p y (ys ++ x ∷ zs) in
    let two = count_by-cons p y (ys ++ zs) in
    omega (arith, inner, one, two)

pub map-mid : {X Y : Type 0} (f : X → Y) (ys : List X) (x w : X) (zs : List X) → f x ≡ f w → map f (ys ++ x ∷ zs) ≡ map f (ys ++ w ∷ zs)
map-mid f [] x w zs e = ap (λ v. v ∷ map f zs) e
map-mid f (y ∷ ys) x w zs e = ap (λ l. f y ∷ l) (map-mid f ys x w zs e)

pub All-mid : {X : Type 0} (P : X → Type 0) (ys : List X) (x : X) (zs : List X) → All P (ys ++ x ∷ zs) → P x
All-mid P [] x zs h = All-head P x zs h
All-mid P (y ∷ ys) x zs h = All-mid P ys x zs (All-tail P y (ys ++ x ∷ zs) h)

pub All-sides : {X : Type 0} (P : X → Type 0) (ys : List X) (x : X) (zs : List X) → All P (ys ++ x ∷ zs) → All P (ys ++ zs)
All-sides P [] x zs h = All-tail P x zs h
All-sides P (y ∷ ys) x zs h = All-cons P y (ys ++ zs) (All-head P y (ys ++ x ∷ zs) h) (All-sides P ys x zs (All-tail P y (ys ++ x ∷ zs) h))

pub All-join : {X : Type 0} (P : X → Type 0) (ys : List X) (x : X) (zs : List X) → P x → All P (ys ++ zs) → All P (ys ++ x ∷ zs)
All-join P [] x zs here h = All-cons P x zs here h
All-join P (y ∷ ys) x zs here h = All-cons P y (ys ++ x ∷ zs) (All-head P y (ys ++ zs) h) (All-join P ys x zs here (All-tail P y (ys ++ zs) h))

pub All-both : {X : Type 0} (P Q : X → Type 0) (xs : List X) → All P xs → All Q xs → All (λ x. P x × Q x) xs
All-both P Q [] p q = All-nil _
All-both P Q (x ∷ xs) p q = All-cons (λ x. P x × Q x) x xs (All-head P x xs p, All-head Q x xs q) (All-both P Q xs (All-tail P x xs p) (All-tail Q x xs q))

-- ---- what a test finds

pub none_counted : {X : Type 0} (p : X → Bool) (xs : List X) → count_by p xs ≡ 0 → All (λ x. p x ≡ false) xs
none_counted p [] h = All-nil _
none_counted p (x ∷ xs) h =
    let here = count_by-cons p x xs in
    All-cons (λ x. p x ≡ false) x xs
    (elim (p x) as (λ b. count_by p (x ∷ xs) ≡ cond b 1 0 + count_by p xs → b ≡ false) [ true ↦ λ e. absurd (omega arith) | false ↦ λ e. refl ] here)
    (none_counted p xs (omega arith))

pub any-found : {X : Type 0} (p : X → Bool) (P : X → Type 0) (xs : List X) → list_any p xs ≡ true → All P xs → (x : X) × (p x ≡ true) × P x
any-found p P [] h all = absurd (cc)
any-found p P (x ∷ xs) h all =
    elim (p x) as (λ b. p x ≡ b → (b || list_any p xs) ≡ true → (x : _) × (p x ≡ true) × P x) [
      | true ↦ λ e h. (x, e, All-head P x xs all)
      | false ↦ λ e h. any-found p P xs h (All-tail P x xs all)
    ] refl h

pub any-more : {X : Type 0} (p q : X → Bool) → ((x : X) → p x ≡ true → q x ≡ true) → (xs : List X) → list_any p xs ≡ true → list_any q xs ≡ true
any-more p q more [] h = absurd (cc)
any-more p q more (x ∷ xs) h =
    elim (p x) as (λ b. p x ≡ b → (b || list_any p xs) ≡ true → (q x || list_any q xs) ≡ true) [
      | true ↦ λ e h. ap (λ b. b || list_any q xs) (more x e)
      | false ↦ λ e h. ap (λ b. q x || b) (any-more p q more xs h) ∙ or_true (q x)
    ] refl h
  where
    or_true : (b : Bool) → (b || true) ≡ true
    or_true true = refl
    or_true false = refl

-- what passes for an element of the list is found in it
abbrev pub IsMember : {X : Type 0} → List X → X → Type 0
IsMember {X} xs x = (q : X → Bool) → q x ≡ true → list_any q xs ≡ true

pub members : {X : Type 0} (xs : List X) → All (IsMember xs) xs
members [] = All-nil _
members (x ∷ xs) = All-cons (IsMember (x ∷ xs)) x xs (λ q e. ap (λ b. b || list_any q xs) e)
    (All-weaker (IsMember xs) (IsMember (x ∷ xs)) (λ y m q e. ap (λ b. q x || b) (m q e) ∙ or_true (q x)) xs (members xs))
  where
    or_true : (b : Bool) → (b || true) ≡ true
    or_true true = refl
    or_true false = refl

-- an element put in at its place
pub insert-mid : {X : Type 0} (ys : List X) (x : X) (zs : List X) → insert (ys ++ zs) (length ys) x ≡ ys ++ x ∷ zs
insert-mid [] x zs = refl
insert-mid (y ∷ ys) x zs = ap (λ l. y ∷ l) (insert-mid ys x zs)

abbrev one_if : Bool → ℕ
one_if b = cond b 1 0

-- none is counted where none passes
pub uncounted : {X : Type 0} (p : X → Bool) (xs : List X) → list_any p xs ≡ false → count_by p xs ≡ 0
uncounted p [] none = refl
uncounted p (x ∷ xs) none =
    let sides = or_parts (p x) (list_any p xs) none in
    let here = count_by-cons p x xs in
    let rest = uncounted p xs sides.1 in
    let mine = ap (λ b. one_if b) sides.0 in
    omega (arith, here, rest, mine)

pub counted_any : {X : Type 0} (p : X → Bool) (xs : List X) → 1 ≤ count_by p xs → list_any p xs ≡ true
counted_any p xs some = by (list_any p xs) refl
  where
    by : (b : Bool) → list_any p xs ≡ b → list_any p xs ≡ true
    by true e = e
    by false e = absurd (let none = uncounted p xs e in omega (arith, none, some))

-- one that passes is counted
pub any_counted : {X : Type 0} (p : X → Bool) (xs : List X) → list_any p xs ≡ true → 1 ≤ count_by p xs
any_counted p [] some = absurd (cc)
any_counted p (x ∷ xs) some = by (any_counted p xs) (p x) some (count_by-cons p x xs)
  where
    by : (list_any p xs ≡ true → 1 ≤ count_by p xs) → (b : Bool) → (b || list_any p xs) ≡ true → count_by p (x ∷ xs) ≡ cond b 1 0 + count_by p xs → 1 ≤ count_by p (x ∷ xs)
    by rest true e is = omega (arith, is)
    by rest false e is = omega (arith, is, rest e)
