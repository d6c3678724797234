-- Numbered things at their places, with gaps between them.
use Rattle.std.proofs.Common.{◌≡◌, ℕ, zero, suc, ◌+◌, ◌<◌, ◌==◌, List, [], ◌∷◌, ◌++◌, length, refl, ap, sym, ◌∙◌, arith, find, filter, Bool, false, cond, Option, Some, None, slice_get, slice_set, is_some, ◌⊎◌, inl, inr, subst}
use Rattle.std.proofs.lemmas.Bool.Decides.{eqb_tells}
use Rattle.sqlx_pool_places.specs.Numbered.{items_at, has_number, HasNone, IsFirstAt, AreNoted, IsNotedToo}

module _ {X : Type 0} where
  -- ---- edits of the places

  pub items-push : (places : List (Option X)) (x : X) → items_at (places ++ Some x ∷ []) ≡ items_at places ++ x ∷ []
  items-push [] x = refl
  items-push (Some y ∷ rest) x = ap (λ l. y ∷ l) (items-push rest x)
  items-push (None ∷ rest) x = items-push rest x

  pub items-closed : (places : List (Option X)) → (items_at (filter is_some places) ≡ items_at places) × (length (filter is_some places) ≡ length (items_at places))
  items-closed [] = (refl, refl)
  items-closed (Some x ∷ rest) = let r = items-closed rest in (ap (λ l. x ∷ l) r.0, ap suc r.1)
  items-closed (None ∷ rest) = items-closed rest

  pub got-within : (places : List (Option X)) (i : ℕ) (x : X) → slice_get places i ≡ Some (Some x) → i < length places
  got-within [] i x e = absurd cc
  got-within (p ∷ rest) zero x e = omega arith
  got-within (p ∷ rest) (suc i) x e = let r = got-within rest i x e in omega (arith, r)

  pub got-pushed : (places : List (Option X)) (y x : X) (i : ℕ) → slice_get (places ++ Some y ∷ []) i ≡ Some (Some x) → (slice_get places i ≡ Some (Some x)) ⊎ ((i ≡ length places) × (x ≡ y))
  got-pushed [] y x zero e = inr (refl, cc)
  got-pushed [] y x (suc i) e = absurd cc
  got-pushed (p ∷ rest) y x zero e = inl e
  got-pushed (p ∷ rest) y x (suc i) e = elim (got-pushed rest y x i e) [
    | inl at ↦ inl at
    | inr last ↦ inr (ap suc last.0, last.1)
  ]

  pub got-gap : (places : List (Option X)) (i j : ℕ) (x : X) → slice_get (slice_set places i None) j ≡ Some (Some x) → slice_get places j ≡ Some (Some x)
  got-gap [] i j x e = e
  got-gap (p ∷ rest) zero zero x e = absurd cc
  got-gap (p ∷ rest) zero (suc j) x e = e
  got-gap (p ∷ rest) (suc i) zero x e = e
  got-gap (p ∷ rest) (suc i) (suc j) x e = got-gap rest i j x e

  -- What stands at a changed place is new, and elsewhere what stood there.
  pub got-changed : (places : List (Option X)) (i j : ℕ) (y x : X) → slice_get (slice_set places i (Some y)) j ≡ Some (Some x) → (slice_get places j ≡ Some (Some x)) ⊎ ((j ≡ i) × (x ≡ y))
  got-changed [] i j y x e = inl e
  got-changed (p ∷ rest) zero zero y x e = inr (refl, cc)
  got-changed (p ∷ rest) zero (suc j) y x e = inl e
  got-changed (p ∷ rest) (suc i) zero y x e = inl e
  got-changed (p ∷ rest) (suc i) (suc j) y x e = elim (got-changed rest i j y x e) [
    | inl at ↦ inl at
    | inr new ↦ inr (ap suc new.0, new.1)
  ]

  -- What stands on both sides of the thing at a place.
  pub record Sides (places : List (Option X)) (place : ℕ) (thing : X) : Type 0 where
    pub before : List X
    pub after : List X
    pub whole : items_at places ≡ before ++ thing ∷ after
    pub gone : items_at (slice_set places place None) ≡ before ++ after
    pub changed : (x : X) → items_at (slice_set places place (Some x)) ≡ before ++ x ∷ after
    pub count : length (items_at places) ≡ suc (length (items_at (slice_set places place None)))

  pub sides : (places : List (Option X)) (place : ℕ) (thing : X) → slice_get places place ≡ Some (Some thing) → Sides places place thing
  sides [] place thing e = absurd cc
  sides (None ∷ rest) zero thing e = absurd cc
  sides (Some y ∷ rest) zero thing e =
      let here : y ≡ thing = cc in
      record { before = []; after = items_at rest; whole = ap (λ z. z ∷ items_at rest) here; gone = refl; changed = λ x. refl; count = refl }
  sides (None ∷ rest) (suc i) thing e = let s = sides rest i thing e in record { before = s.before; after = s.after; whole = s.whole; gone = s.gone; changed = s.changed; count = s.count }
  sides (Some y ∷ rest) (suc i) thing e =
      let s = sides rest i thing e in
      record {
        before = y ∷ s.before;
        after = s.after;
        whole = ap (λ l. y ∷ l) s.whole;
        gone = ap (λ l. y ∷ l) s.gone;
        changed = λ x. ap (λ l. y ∷ l) (s.changed x);
        count = ap suc s.count;
      }

lt-split : (j n : ℕ) → j < n + 1 → (j < n) ⊎ (j ≡ n)
lt-split zero zero h = inr refl
lt-split zero (suc n) h = inl (omega arith)
lt-split (suc j) zero h = absurd (omega (arith, h))
lt-split (suc j) (suc n) h = elim (lt-split j n (omega (arith, h))) [
  | inl k ↦ inl (omega (arith, k))
  | inr e ↦ inr (ap suc e)
]

-- what holds below a number and at it
pub below-next : (P : ℕ → Type 0) (n : ℕ) → ((j : ℕ) → j < n → P j) → P n → (j : ℕ) → j < n + 1 → P j
below-next P n before here j lt = elim (lt-split j n lt) [
  | inl k ↦ before j k
  | inr e ↦ subst P (sym e) here
]

same-number : {A : Type 0} (n : ℕ) (x y : A) → cond (n == n) x y ≡ x
same-number n x y = elim (eqb_tells n n) [
  | inl is ↦ ap (λ (b : Bool). cond b x y) is.0
  | inr is ↦ absurd (is.1 refl)
]

-- a number that wasn't noted is
pub note-new : {X : Type 0} (number : X → ℕ) (before after : ℕ → Option ℕ) (x : X) (n : ℕ) → before (number x) ≡ None → ((q : ℕ) → after q ≡ cond (number x == q) (Some n) (before q)) → IsNotedToo number before after (Some x) n
note-new number before after x n none put = record {
  kept = λ q j e. elim (eqb_tells (number x) q) [
    | inl is ↦ absurd (let s : Some j ≡ None = sym e ∙ ap before (sym is.1) ∙ none in cc)
    | inr is ↦ put q ∙ rw is.0 e
  ];
  one_more = λ y e. let same : x ≡ y = cc in rw (← same) (put (number x) ∙ same-number (number x) (Some n) (before (number x)));
}

module _ {X : Type 0} (number : X → ℕ) where
  -- ---- what is noted

  -- none has a number that isn't noted
  pub noted-none : (n : ℕ) (places : List (Option X)) (noted : ℕ → Option ℕ) → AreNoted number places noted → noted n ≡ None → (end : ℕ) → HasNone number n places end
  noted-none n places noted are none end = λ i x e lt. elim (eqb_tells n (number x)) [
    | inl is ↦ absurd (let s : Some i ≡ None = sym (are i x e) ∙ ap noted (sym is.1) ∙ none in cc)
    | inr is ↦ is.0
  ]

  -- nor does one before the noted place
  pub noted-first : (n : ℕ) (places : List (Option X)) (noted : ℕ → Option ℕ) (p : ℕ) → AreNoted number places noted → noted n ≡ Some p → HasNone number n places p
  noted-first n places noted p are at = λ i x e lt. elim (eqb_tells n (number x)) [
    | inl is ↦ absurd (let s : Some i ≡ Some p = sym (are i x e) ∙ ap noted (sym is.1) ∙ at in let same : i ≡ p = cc in omega (arith, lt, same))
    | inr is ↦ is.0
  ]

  -- none at all, where the thing at the noted place has another
  pub noted-other : (n : ℕ) (places : List (Option X)) (noted : ℕ → Option ℕ) (p : ℕ) → AreNoted number places noted → noted n ≡ Some p → ((x : X) → slice_get places p ≡ Some (Some x) → (n == number x) ≡ false)
      → (end : ℕ) → HasNone number n places end
  noted-other n places noted p are at other end = λ i x e lt. elim (eqb_tells n (number x)) [
    | inl is ↦ let s : Some i ≡ Some p = sym (are i x e) ∙ ap noted (sym is.1) ∙ at in let same : i ≡ p = cc in other x (rw (← same) e)
    | inr is ↦ is.0
  ]

  -- a gap is noted nowhere
  pub noted-gap : (places : List (Option X)) (noted : ℕ → Option ℕ) (i : ℕ) → AreNoted number places noted → AreNoted number (slice_set places i None) noted
  noted-gap places noted i are = λ j x e. are j x (got-gap places i j x e)

  -- what is changed under its number stays noted
  pub noted-changed : (places : List (Option X)) (noted : ℕ → Option ℕ) (i : ℕ) (y z : X) → slice_get places i ≡ Some (Some y) → number z ≡ number y → AreNoted number places noted → AreNoted number (slice_set places i (Some z)) noted
  noted-changed places noted i y z here same are = λ j x e. elim (got-changed places i j z x e) [
    | inl at ↦ are j x at
    | inr new ↦ rw (new.0, new.1, same) (are i y here)
  ]

  -- one more is noted, whose number none has
  pub noted-push : (places : List (Option X)) (noted after : ℕ → Option ℕ) (y : X) (n : ℕ) → AreNoted number places noted → ((q : ℕ) → after q ≡ cond (n == q) (Some (length places)) (noted q))
      → HasNone number n places (length places) → number y ≡ n → AreNoted number (places ++ Some y ∷ []) after
  noted-push places noted after y n are put none own = λ i x e. elim (got-pushed places y x i e) [
    | inl at ↦ put (number x) ∙ rw (none i x at (got-within places i x at)) (are i x at)
    | inr last ↦ put (number x) ∙ rw (last.1, own, last.0) (same-number n (Some (length places)) (noted n))
  ]

  -- ---- by number

  -- where none has it, none is found
  pub find-none : (n : ℕ) (places : List (Option X)) → HasNone number n places (length places) → find (has_number number n) (items_at places) ≡ None
  find-none n [] f = refl
  find-none n (Some x ∷ rest) f = rw (f 0 x refl (omega arith)) (find-none n rest (λ i y e lt. f (suc i) y e (omega (arith, lt))))
  find-none n (None ∷ rest) f = find-none n rest (λ i y e lt. f (suc i) y e (omega (arith, lt)))

  -- and what stands first is
  pub find-first : (n : ℕ) (places : List (Option X)) (p : ℕ) (at : IsFirstAt number n places p) → find (has_number number n) (items_at places) ≡ Some at.thing
  find-first n [] p at = absurd (let e = at.stands in cc)
  find-first n (Some x ∷ rest) zero at =
      let here : x ≡ at.thing = let e = at.stands in cc in
      rw (here, at.is) (same-number n (Some at.thing) (find (has_number number n) (items_at rest)))
  find-first n (None ∷ rest) zero at = absurd (let e = at.stands in cc)
  find-first n (Some x ∷ rest) (suc p) at =
      rw (at.first 0 x refl (omega arith)) (find-first n rest p (record { thing = at.thing; stands = at.stands; is = at.is; first = λ i y e lt. at.first (suc i) y e (omega (arith, lt)) }))
  find-first n (None ∷ rest) (suc p) at = find-first n rest p (record { thing = at.thing; stands = at.stands; is = at.is; first = λ i y e lt. at.first (suc i) y e (omega (arith, lt)) })
