-- Loans at their places, with gaps between them.
use Rattle.std.proofs.Common.{◌≡◌, ℕ, zero, suc, ◌+◌, ◌<◌, ◌≤◌, List, [], ◌∷◌, ◌++◌, length, take, refl, ap, sym, ◌∙◌, arith, find, filter, count_by, Bool, true, false, cond, Option, Some, None, ◌&&◌, ◌==◌, slice_get, slice_set, is_some, IfNone, ◌⊎◌, inl, inr, subst}
use Rattle.std.proofs.Math.Seq.{take-length}
use Rattle.std.proofs.lemmas.List.{take_more_set, length-set}
use Rattle.std.proofs.lemmas.Bool.Decides.{eqb_tells}
use Rattle.sqlx_pool_lists.specs.declared.ticket.OwnedConn.{OwnedConn}
use Rattle.sqlx_pool_lists.specs.Core.{is_held_by}
use Rattle.sqlx_pool_lists.specs.Sound.{holds}
use Rattle.sqlx_pool_lists.specs.Edits.{without_loan}
use Rattle.sqlx_pool_lists.specs.HeldList.{loans_at, AreNoted, IsNotedToo}
use Rattle.sqlx_pool_marks.proofs.ListFacts.{count_by-cons, filter_none, same_number as number-is}

-- ---- edits of the places

pub loans-push : (places : List (Option OwnedConn)) (h : OwnedConn) → loans_at (places ++ Some h ∷ []) ≡ loans_at places ++ h ∷ []
loans-push [] h = refl
loans-push (Some x ∷ rest) h = ap (λ l. x ∷ l) (loans-push rest h)
loans-push (None ∷ rest) h = loans-push rest h

pub loans-closed : (places : List (Option OwnedConn)) → (loans_at (filter is_some places) ≡ loans_at places) × (length (filter is_some places) ≡ length (loans_at places))
loans-closed [] = (refl, refl)
loans-closed (Some x ∷ rest) = let r = loans-closed rest in (ap (λ l. x ∷ l) r.0, ap suc r.1)
loans-closed (None ∷ rest) = loans-closed rest

pub got-pushed : (places : List (Option OwnedConn)) (h x : OwnedConn) (i : ℕ) → slice_get (places ++ Some h ∷ []) i ≡ Some (Some x) → (slice_get places i ≡ Some (Some x)) ⊎ ((i ≡ length places) × (x ≡ h))
got-pushed [] h x zero e = inr (refl, cc)
got-pushed [] h x (suc i) e = absurd cc
got-pushed (p ∷ rest) h x zero e = inl e
got-pushed (p ∷ rest) h x (suc i) e = elim (got-pushed rest h x i e) [
  | inl at ↦ inl at
  | inr last ↦ inr (ap suc last.0, last.1)
]

pub got-gap : (places : List (Option OwnedConn)) (i j : ℕ) (x : OwnedConn) → slice_get (slice_set places i None) j ≡ Some (Some x) → slice_get places j ≡ Some (Some x)
got-gap [] i j x e = e
got-gap (p ∷ rest) zero zero x e = absurd cc
got-gap (p ∷ rest) zero (suc j) x e = e
got-gap (p ∷ rest) (suc i) zero x e = e
got-gap (p ∷ rest) (suc i) (suc j) x e = got-gap rest i j x e

-- ---- by number

-- where no place has the number, none of the loans has it
pub none-of : (c : ℕ) (places : List (Option OwnedConn)) → ((i : ℕ) (h : OwnedConn) → slice_get places i ≡ Some (Some h) → (c == h.conn) ≡ false) → count_by (holds c) (loans_at places) ≡ 0
none-of c [] f = refl
none-of c (Some x ∷ rest) f =
    let here : (c == x.conn) ≡ false = f 0 x refl in
    let more = none-of c rest (λ i h e. f (suc i) h e) in
    count_by-cons (holds c) x (loans_at rest) ∙ rw here (omega (arith, more))
none-of c (None ∷ rest) f = none-of c rest (λ i h e. f (suc i) h e)

-- a loan at a place is counted
pub placed-counts : (c : ℕ) (places : List (Option OwnedConn)) (i : ℕ) (h : OwnedConn) → slice_get places i ≡ Some (Some h) → (c == h.conn) ≡ true → 1 ≤ count_by (holds c) (loans_at places)
placed-counts c [] i h e same = absurd cc
placed-counts c (Some x ∷ rest) zero h e same =
    let here : x ≡ h = cc in
    let one : (c == x.conn) ≡ true = rw here same in
    rw (count_by-cons (holds c) x (loans_at rest), one) (omega arith)
placed-counts c (Some x ∷ rest) (suc i) h e same = let more = placed-counts c rest i h e same in rw (count_by-cons (holds c) x (loans_at rest)) (omega (arith, more))
placed-counts c (None ∷ rest) zero h e same = absurd cc
placed-counts c (None ∷ rest) (suc i) h e same = placed-counts c rest i h e same

other-number : (c : ℕ) (x : OwnedConn) (n : ℕ) → cond (c == x.conn) 1 0 + n ≤ 1 → 1 ≤ n → (c == x.conn) ≡ false
other-number c x n h k = by (c == x.conn) h
  where
    by : (b : Bool) → cond {A = ℕ} b 1 0 + n ≤ 1 → b ≡ false
    by true h = absurd (omega (arith, h, k))
    by false h = refl

-- What the loans are without the one at this place, and which of them is the client's.
pub record IsAtPlace (k c : ℕ) (places : List (Option OwnedConn)) (i : ℕ) (h : OwnedConn) : Type 0 where
  pub found : find (is_held_by k c) (loans_at places) ≡ cond (k == h.client) (Some h) None
  pub left : without_loan c (loans_at places) ≡ loans_at (slice_set places i None)
  pub count : length (loans_at places) ≡ suc (length (loans_at (slice_set places i None)))

none-held : (k c : ℕ) (xs : List OwnedConn) → count_by (holds c) xs ≡ 0 → find (is_held_by k c) xs ≡ None
none-held k c [] e = refl
none-held k c (x ∷ xs) e = by (none-held k c xs) (c == x.conn) (sym (count_by-cons (holds c) x xs) ∙ e)
  where
    by : (count_by (holds c) xs ≡ 0 → find (is_held_by k c) xs ≡ None) → (b : Bool) → cond {A = ℕ} b 1 0 + count_by (holds c) xs ≡ 0 → cond (b && (k == x.client)) (Some x) (find (is_held_by k c) xs) ≡ None
    by rest true z = absurd (omega (arith, z))
    by rest false z = rest (omega (arith, z))

-- where none of the loans has the number, none is the client's, and none ends
pub none-there : (k c : ℕ) (xs : List OwnedConn) → count_by (holds c) xs ≡ 0 → (find (is_held_by k c) xs ≡ None) × (without_loan c xs ≡ xs)
none-there k c xs e = (none-held k c xs e, filter_none (holds c) xs e)

pub at-place : (k c : ℕ) (places : List (Option OwnedConn)) (i : ℕ) (h : OwnedConn) → slice_get places i ≡ Some (Some h) → (c == h.conn) ≡ true → count_by (holds c) (loans_at places) ≤ 1 → IsAtPlace k c places i h
at-place k c [] i h e same once = absurd cc
at-place k c (None ∷ rest) zero h e same once = absurd cc
at-place k c (None ∷ rest) (suc i) h e same once = let r = at-place k c rest i h e same once in record { found = r.found; left = r.left; count = r.count }
at-place k c (Some x ∷ rest) zero h e same once =
    let here : x ≡ h = cc in
    let one : (c == x.conn) ≡ true = rw here same in
    let sum = count_by-cons (holds c) x (loans_at rest) in
    let head : cond {A = ℕ} (c == x.conn) 1 0 ≡ 1 = ap (λ (b : Bool). cond {A = ℕ} b 1 0) one in
    let none : count_by (holds c) (loans_at rest) ≡ 0 = omega (arith, once, sum, head) in
    let there = none-there k c (loans_at rest) none in
    record { found = rw (one, there.0, here) refl; left = rw one there.1; count = refl }
at-place k c (Some x ∷ rest) (suc i) h e same once =
    let sum = count_by-cons (holds c) x (loans_at rest) in
    let some = placed-counts c rest i h e same in
    let other = other-number c x (count_by (holds c) (loans_at rest)) (omega (arith, once, sum)) some in
    let r = at-place k c rest i h e same (omega (arith, once, sum)) in
    record { found = rw other r.found; left = rw other (ap (λ l. x ∷ l) r.left); count = ap suc r.count }

-- ---- what is noted

-- where a number isn't noted, no loan has it
pub noted-none : (c : ℕ) (places : List (Option OwnedConn)) (noted : ℕ → Option ℕ) → AreNoted places noted → noted c ≡ None → count_by (holds c) (loans_at places) ≡ 0
noted-none c places noted are none = none-of c places (λ i h e. elim (eqb_tells c h.conn) [
  | inl is ↦ absurd (let s : Some i ≡ None = sym (are i h e) ∙ ap noted (sym is.1) ∙ none in cc)
  | inr is ↦ is.0
])

-- nor where the loan at the noted place has another
pub noted-other : (c : ℕ) (places : List (Option OwnedConn)) (noted : ℕ → Option ℕ) (i : ℕ) → AreNoted places noted → noted c ≡ Some i → ((h : OwnedConn) → slice_get places i ≡ Some (Some h) → (c == h.conn) ≡ false)
    → count_by (holds c) (loans_at places) ≡ 0
noted-other c places noted i are at other = none-of c places (λ j h e. elim (eqb_tells c h.conn) [
  | inl is ↦ let s : Some j ≡ Some i = sym (are j h e) ∙ ap noted (sym is.1) ∙ at in let same : j ≡ i = cc in other h (rw (← same) e)
  | inr is ↦ is.0
])

pub noted_gap : (places : List (Option OwnedConn)) (i : ℕ) (noted : ℕ → Option ℕ) → AreNoted places noted → AreNoted (slice_set places i None) noted
noted_gap places i noted are = λ j h e. are j h (got-gap places i j h e)

same-number : (c n : ℕ) (o : Option ℕ) → cond (c == c) (Some n) o ≡ Some n
same-number c n o = ap (λ (b : Bool). cond b (Some n) o) (number-is c)

-- one more is noted, whose number none of the loans has
pub noted-push : (places : List (Option OwnedConn)) (noted after : ℕ → Option ℕ) (x : OwnedConn) → AreNoted places noted → ((q : ℕ) → after q ≡ cond (x.conn == q) (Some (length places)) (noted q))
    → count_by (holds x.conn) (loans_at places) ≡ 0 → AreNoted (places ++ Some x ∷ []) after
noted-push places noted after x are put none = λ i h e. elim (got-pushed places x h i e) [
  | inl at ↦ elim (eqb_tells x.conn h.conn) [
    | inl is ↦ absurd (let some = placed-counts x.conn places i h at is.0 in omega (arith, some, none))
    | inr is ↦ put h.conn ∙ rw is.0 (are i h at)
  ]
  | inr last ↦ put h.conn ∙ rw (last.1, last.0) (same-number x.conn (length places) (noted x.conn))
]

-- ---- in a loop

lt-split : (j n : ℕ) → j < n + 1 → (j < n) ⊎ (j ≡ n)
lt-split zero zero h = inr refl
lt-split zero (suc n) h = inl (omega arith)
lt-split (suc j) zero h = absurd (omega (arith, h))
lt-split (suc j) (suc n) h = elim (lt-split j n (omega (arith, h))) [
  | inl k ↦ inl (omega (arith, k))
  | inr e ↦ inr (ap suc e)
]

-- what holds below a number and at it
pub below-next : (P : ℕ → Type 0) (n : ℕ) → ((j : ℕ) → j < n → P j) → P n → (j : ℕ) → j < n + 1 → P j
below-next P n before here j lt = elim (lt-split j n lt) [
  | inl k ↦ before j k
  | inr e ↦ subst P (sym e) here
]

pub got-within : (places : List (Option OwnedConn)) (i : ℕ) (x : OwnedConn) → slice_get places i ≡ Some (Some x) → i < length places
got-within [] i x e = absurd cc
got-within (p ∷ rest) zero x e = omega arith
got-within (p ∷ rest) (suc i) x e = let r = got-within rest i x e in omega (arith, r)

-- a number that wasn't noted is
pub note-new : (before after : ℕ → Option ℕ) (h : OwnedConn) (n : ℕ) → before h.conn ≡ None → ((q : ℕ) → after q ≡ cond (h.conn == q) (Some n) (before q)) → IsNotedToo before after (Some h) n
note-new before after h n none put = record {
  kept = λ q j e. elim (eqb_tells h.conn q) [
    | inl is ↦ absurd (let s : Some j ≡ None = sym e ∙ ap before (sym is.1) ∙ none in cc)
    | inr is ↦ put q ∙ rw is.0 e
  ];
  one_more = λ x e. let same : h ≡ x = cc in rw (← same) (put h.conn ∙ same-number h.conn n (before h.conn));
}

-- where there is none, what holds then does
pub if-none : {X : Type 0} {P : Type 0} (o : Option X) → is_some o ≡ false → IfNone o P → P
if-none None e h = h
if-none (Some x) e h = absurd cc

pub equal-number : (a b : ℕ) → b ≡ a → (a == b) ≡ true
equal-number a b e = rw e (number-is a)

-- the loan is the client's, or another's
pub held-by : (a b : ℕ) (h : OwnedConn) → a ≡ b → cond (a == b) (Some h) None ≡ Some h
held-by a b h e = ap (λ (x : Bool). cond x (Some h) None) (equal-number a b (sym e))

pub held-by-other : (a b : ℕ) (h : OwnedConn) → (a ≡ b → ⊥) → cond (a == b) (Some h) None ≡ None
held-by-other a b h n = elim (eqb_tells a b) [
  | inl is ↦ absurd (n is.1)
  | inr is ↦ ap (λ (x : Bool). cond x (Some h) None) is.0
]

-- ---- a gap at the end

-- a gap at the end is no loan, and may be taken away
pub last_gap : (places : List (Option OwnedConn)) (i : ℕ) → i + 1 ≡ length places → loans_at (take i places) ≡ loans_at (slice_set places i None)
last_gap places i last = sym (by (take i places)) ∙ ap loans_at (sym (set-at-last places i last))
  where
    by : (xs : List (Option OwnedConn)) → loans_at (xs ++ None ∷ []) ≡ loans_at xs
    by [] = refl
    by (Some h ∷ xs) = ap (λ l. h ∷ l) (by xs)
    by (None ∷ xs) = by xs

    set-at-last : (xs : List (Option OwnedConn)) (i : ℕ) → i + 1 ≡ length xs → slice_set xs i None ≡ take i xs ++ None ∷ []
    set-at-last xs i last = sym (take-length (slice_set xs i None)) ∙ (ap (λ (n : ℕ). take n (slice_set xs i None)) (length-set xs i None ∙ sym last) ∙ take_more_set xs i None (omega (arith, last)))

-- what stands before the end is noted as it was
pub last_gap_noted : (places : List (Option OwnedConn)) (i : ℕ) (noted : ℕ → Option ℕ) → AreNoted places noted → AreNoted (take i places) noted
last_gap_noted places i noted are = λ j h e. are j h (within places i j h e)
  where
    within : (xs : List (Option OwnedConn)) (i j : ℕ) (h : OwnedConn) → slice_get (take i xs) j ≡ Some (Some h) → slice_get xs j ≡ Some (Some h)
    within [] zero j h e = absurd cc
    within [] (suc i) j h e = absurd cc
    within (x ∷ xs) zero j h e = absurd cc
    within (x ∷ xs) (suc i) zero h e = e
    within (x ∷ xs) (suc i) (suc j) h e = within xs i j h e
