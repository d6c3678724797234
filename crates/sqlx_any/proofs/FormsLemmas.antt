-- Lists of answers that are made of a list, item by item.
use Rattle.std.proofs.Common.{◌≡◌, ℕ, ◌+◌, ◌<◌, List, [], ◌∷◌, ◌++◌, map, length, get_or, take, drop, Option, Some, None, Result, Ok, Err, refl, sym, ap, subst, ◌∙◌}
use Rattle.std.proofs.lemmas.List.{map-append, take_more, drop_more, take-append-drop}
use Rattle.sqlx_traits.specs.StepList.{all_of, values_of, first_error, or_error}

-- the values of the first list, then those of the second
abbrev pub joined : {A E : Type 0} → Result (List A) E → Result (List A) E → Result (List A) E
joined (Ok xs) (Ok ys) = Ok (xs ++ ys)
joined (Ok xs) (Err e) = Err e
joined (Err e) r = Err e

-- a value before the others
abbrev pub before : {A E : Type 0} → A → Result (List A) E → Result (List A) E
before x (Ok xs) = Ok (x ∷ xs)
before x (Err e) = Err e

or_error-cons : {A E : Type 0} (x : A) (xs : List A) (e : Option E) → or_error (x ∷ xs) e ≡ before x (or_error xs e)
or_error-cons x xs None = refl
or_error-cons x xs (Some e) = refl

pub before-joined : {A E : Type 0} (x : A) (r s : Result (List A) E) → before x (joined r s) ≡ joined (before x r) s
before-joined x (Ok xs) (Ok ys) = refl
before-joined x (Ok xs) (Err e) = refl
before-joined x (Err e) s = refl

joined-nil : {A E : Type 0} (r : Result (List A) E) → r ≡ joined (Ok []) r
joined-nil (Ok ys) = refl
joined-nil (Err e) = refl

pub all_of-append : {A E : Type 0} (xs ys : List (Result A E)) → all_of (xs ++ ys) ≡ joined (all_of xs) (all_of ys)
all_of-append [] ys = joined-nil (all_of ys)
all_of-append (Ok x ∷ rest) ys =
    or_error-cons x (values_of (rest ++ ys)) (first_error (rest ++ ys))
    ∙ ap (before x) (all_of-append rest ys) ∙ before-joined x (all_of rest) (all_of ys)
    ∙ ap (λ r. joined r (all_of ys)) (sym (or_error-cons x (values_of rest) (first_error rest)))
all_of-append (Err e ∷ rest) ys = refl

module _ {X A E : Type 0} (f : X → Result A E) where
  -- one item more is one value more
  pub all_of_push : (xs : List X) (x : X) (done : List A) (a : A) → all_of (map f xs) ≡ Ok done → f x ≡ Ok a → all_of (map f (xs ++ x ∷ [])) ≡ Ok (done ++ a ∷ [])
  all_of_push xs x done a ok one = rw (map-append f xs (x ∷ []), all_of-append (map f xs) (f x ∷ []), ok, one) refl

  -- the first item that refuses decides
  pub all_of_refused : (xs rest : List X) (x : X) (done : List A) (e : E) → all_of (map f xs) ≡ Ok done → f x ≡ Err e → all_of (map f (xs ++ x ∷ rest)) ≡ Err e
  all_of_refused xs rest x done e ok one = rw (map-append f xs (x ∷ rest), all_of-append (map f xs) (f x ∷ map f rest), ok, one) refl

  module _ (xs : List X) (i : ℕ) (x : X) (within : i < length xs) (item : x ≡ get_or xs i x) (done : List A) (ok : all_of (map f (take i xs)) ≡ Ok done) where
    pub all_of_more : (a : A) → f x ≡ Ok a → all_of (map f (take (i + 1) xs)) ≡ Ok (done ++ a ∷ [])
    all_of_more a one =
        let step : take i xs ++ x ∷ [] ≡ take (i + 1) xs = ap (λ y. take i xs ++ y ∷ []) item ∙ sym (take_more xs i x within) in
        subst (λ l. all_of (map f l) ≡ Ok (done ++ a ∷ [])) step (all_of_push (take i xs) x done a ok one)

    pub all_of_stop : (e : E) → f x ≡ Err e → all_of (map f xs) ≡ Err e
    all_of_stop e one =
        let rest : x ∷ drop (i + 1) xs ≡ drop i xs = ap (λ y. y ∷ drop (i + 1) xs) item ∙ sym (drop_more xs i x within) in
        let whole : take i xs ++ x ∷ drop (i + 1) xs ≡ xs = ap (λ r. take i xs ++ r) rest ∙ take-append-drop i xs in
        subst (λ l. all_of (map f l) ≡ Err e) whole (all_of_refused (take i xs) (drop (i + 1) xs) x done e ok one)
