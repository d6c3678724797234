-- How many numbers are below the edge, and what the line's calls make of that.
use Rattle.std.proofs.Common.{◌≡◌, ℕ, ◌+◌, ◌<◌, ◌≤◌, ◌-◌, ◌^◌, ◌==◌, ◌&&◌, ◌||◌, ◌⊎◌, inl, inr, Bool, true, false, not, cond, List, [], ◌∷◌, ◌++◌, length, Some, None, refl, sym, ap, subst, ◌∙◌, arith}
use Rattle.std.specs.Prelude.{nat_lt, filter, find, count_by}
use Rattle.std.specs.List.{All, list_any}
use Rattle.std.proofs.lemmas.Bool.Decides.{nat_tests}
use Rattle.std.proofs.lemmas.List.Sums.{sum_by-cons, count_by-le-length}
use Rattle.std.proofs.lemmas.List.Elements.{All-push, All-filter, All-head, All-tail}
use Rattle.sqlx_pool_places.specs.Line.{TicketLine, IsSound, ComesLast, line_of, is_waiting, without, before}
use Rattle.sqlx_pool_places.specs.Laws.{EdgeTellsTheOrder}
use Rattle.sqlx_pool_places.proofs.RisingNumbers.{IsRising, AreAbove, rest_above, rest_rises, kept}

-- how many of the numbers are below this one
abbrev pub below : ℕ → List ℕ → ℕ
below e ks = count_by (λ n. nat_lt n e) ks

abbrev pub has : ℕ → List ℕ → Bool
has t ks = list_any (λ n. n == t) ks

abbrev pub left_out : ℕ → List ℕ → List ℕ
left_out t ks = filter (λ n. not (n == t)) ks

-- ---- one number at the front

one_more : (e k : ℕ) (ks : List ℕ) → below e (k ∷ ks) ≡ cond (nat_lt k e) 1 0 + below e ks
one_more e k ks = sum_by-cons (λ n. cond {A = ℕ} (nat_lt n e) 1 0) k ks

weight : (e k : ℕ) → ((cond {A = ℕ} (nat_lt k e) 1 0 ≡ 1) × (k < e)) ⊎ ((cond {A = ℕ} (nat_lt k e) 1 0 ≡ 0) × (e ≤ k))
weight e k = by (nat_lt k e) refl
  where
    by : (b : Bool) → nat_lt k e ≡ b → ((cond {A = ℕ} b 1 0 ≡ 1) × (k < e)) ⊎ ((cond {A = ℕ} b 1 0 ≡ 0) × (e ≤ k))
    by true l = inl (refl, grind (arith, nat_tests))
    by false l = inr (refl, grind (arith, nat_tests))

-- ---- the order

-- more of them are below a greater number
pub below-more : (d e : ℕ) (ks : List ℕ) → d ≤ e → below d ks ≤ below e ks
below-more d e [] l = omega arith
below-more d e (k ∷ ks) l = omega (arith, one_more d k ks, one_more e k ks, weight d k, weight e k, below-more d e ks l)

-- a number that is there isn't below itself
pub below-itself : (t e : ℕ) (ks : List ℕ) → has t ks ≡ true → t < e → below t ks < below e ks
below-itself t e [] is l = cc
below-itself t e (k ∷ ks) is l = by (below-itself t e ks) (k == t) refl is
  where
    by : (has t ks ≡ true → t < e → below t ks < below e ks) → (b : Bool) → (k == t) ≡ b → (b || has t ks) ≡ true → below t (k ∷ ks) < below e (k ∷ ks)
    by rest true same is = let here : k ≡ t = grind (arith, nat_tests) in omega (arith, one_more t k ks, one_more e k ks, weight t k, weight e k, below-more t e ks (omega arith))
    by rest false other is = omega (arith, one_more t k ks, one_more e k ks, weight t k, weight e k, rest is l)

-- one that isn't below the edge is left over
pub not-all-below : (t e : ℕ) (ks : List ℕ) → has t ks ≡ true → e ≤ t → below e ks < length ks
not-all-below t e [] is l = cc
not-all-below t e (k ∷ ks) is l = by (not-all-below t e ks) (k == t) refl is
  where
    by : (has t ks ≡ true → e ≤ t → below e ks < length ks) → (b : Bool) → (k == t) ≡ b → (b || has t ks) ≡ true → below e (k ∷ ks) < length (k ∷ ks)
    by rest true same is = let here : k ≡ t = grind (arith, nat_tests) in omega (arith, one_more e k ks, weight e k, count_by-le-length (λ n. nat_lt n e) ks)
    by rest false other is = omega (arith, one_more e k ks, weight e k, rest is l)

pub edge_tells : EdgeTellsTheOrder
edge_tells free t line served waits = by (nat_lt t line.edge) refl
  where
    by : (b : Bool) → nat_lt t line.edge ≡ b → b ≡ nat_lt (before t line) free
    by true e = let l : t < line.edge = grind (arith, nat_tests) in let m : below t line.waiting < below line.edge line.waiting = below-itself t line.edge line.waiting waits l in let n : before t line < free = omega arith in grind (arith, nat_tests)
    by false e = let l : line.edge ≤ t = grind (arith, nat_tests) in let m : below line.edge line.waiting < length line.waiting = not-all-below t line.edge line.waiting waits l in let n : free ≤ before t line = omega (arith, below-more line.edge t line.waiting l) in grind (arith, nat_tests)

-- ---- the calls

pub below-joined : (t e : ℕ) (ks : List ℕ) → e ≤ t → below e (ks ++ t ∷ []) ≡ below e ks
below-joined t e [] l = omega (arith, one_more e t [], weight e t)
below-joined t e (k ∷ ks) l = omega (arith, one_more e k ks, one_more e k (ks ++ t ∷ []), below-joined t e ks l)

none_below : (k e : ℕ) (ks : List ℕ) → AreAbove k ks → e ≤ k + 1 → below e ks ≡ 0
none_below k e [] above l = refl
none_below k e (n ∷ ks) above l = omega (arith, one_more e n ks, weight e n, above.0, none_below k e ks above.1 l)

none_there : (t : ℕ) (ks : List ℕ) → AreAbove t ks → has t ks ≡ false
none_there t [] above = refl
none_there t (n ∷ ks) above = grind (arith, nat_tests, above.0, none_there t ks above.1)

-- without a number, the count below the edge is one less where it was there and below
pub below-left_out : (t e : ℕ) (ks : List ℕ) → IsRising ks → below e (left_out t ks) + cond (has t ks && nat_lt t e) 1 0 ≡ below e ks
below-left_out t e [] rising = refl
below-left_out t e (k ∷ ks) rising = by (below-left_out t e ks (rest_rises k ks rising)) (k == t) refl
  where
    by : below e (left_out t ks) + cond (has t ks && nat_lt t e) 1 0 ≡ below e ks → (b : Bool) → (k == t) ≡ b → below e (cond (not b) (k ∷ left_out t ks) (left_out t ks)) + cond ((b || has t ks) && nat_lt t e) 1 0 ≡ below e (k ∷ ks)
    by rest true same =
        let here : k ≡ t = grind (arith, nat_tests) in
        let above : AreAbove t ks = subst (λ n. AreAbove n ks) here (rest_above k ks rising) in
        let gone : below e (left_out t ks) ≡ below e ks = ap (below e) (kept t ks above) in
        omega (arith, one_more e k ks, subst (λ n. cond (nat_lt k e) 1 0 ≡ cond {A = ℕ} (nat_lt n e) 1 0) here refl)
    by rest false other = omega (arith, one_more e k ks, one_more e k (left_out t ks))

-- how many there are without a number
pub length-left_out : (t : ℕ) (ks : List ℕ) → IsRising ks → length (left_out t ks) + cond (has t ks) 1 0 ≡ length ks
length-left_out t [] rising = refl
length-left_out t (k ∷ ks) rising = by (length-left_out t ks (rest_rises k ks rising)) (k == t) refl
  where
    by : length (left_out t ks) + cond (has t ks) 1 0 ≡ length ks → (b : Bool) → (k == t) ≡ b → length (cond (not b) (k ∷ left_out t ks) (left_out t ks)) + cond (b || has t ks) 1 0 ≡ length (k ∷ ks)
    by rest true same =
        let above : AreAbove t ks = subst (λ n. AreAbove n ks) (grind (arith, nat_tests)) (rest_above k ks rising) in
        let gone : length (left_out t ks) ≡ length ks = ap length (kept t ks above) in omega arith
    by rest false other = omega arith

-- what is found isn't below the edge
pub not_below : (e n : ℕ) (ks : List ℕ) → find (λ k. not (nat_lt k e)) ks ≡ Some n → e ≤ n
not_below e n [] is = cc
not_below e n (k ∷ ks) is = by (not_below e n ks) (nat_lt k e) refl is
  where
    by : (find (λ k. not (nat_lt k e)) ks ≡ Some n → e ≤ n) → (b : Bool) → nat_lt k e ≡ b → cond (not b) (Some k) (find (λ k. not (nat_lt k e)) ks) ≡ Some n → e ≤ n
    by rest true l is = rest is
    by rest false l is = let same : k ≡ n = cc in grind (arith, nat_tests)

-- the edge behind the first that isn't below it: one more is
pub below-passed : (e n : ℕ) (ks : List ℕ) → IsRising ks → find (λ k. not (nat_lt k e)) ks ≡ Some n → below (n + 1) ks ≡ below e ks + 1
below-passed e n [] rising is = cc
below-passed e n (k ∷ ks) rising is = by (below-passed e n ks (rest_rises k ks rising)) (nat_lt k e) refl is
  where
    by : (find (λ k. not (nat_lt k e)) ks ≡ Some n → below (n + 1) ks ≡ below e ks + 1) → (b : Bool) → nat_lt k e ≡ b → cond (not b) (Some k) (find (λ k. not (nat_lt k e)) ks) ≡ Some n → below (n + 1) (k ∷ ks) ≡ below e (k ∷ ks) + 1
    by rest true l is = let m : k < e = grind (arith, nat_tests) in omega (arith, one_more (n + 1) k ks, one_more e k ks, weight (n + 1) k, weight e k, rest is, not_below e n ks is)
    by rest false l is =
        let same : k ≡ n = cc in
        let m : e ≤ k = grind (arith, nat_tests) in
        omega (arith, one_more (n + 1) k ks, one_more e k ks, weight (n + 1) k, weight e k, none_below k e ks (rest_above k ks rising) (omega arith), none_below k (n + 1) ks (rest_above k ks rising) (omega arith))

-- ---- every line stays sound

pub sound_pushed : (t counted edge moves : ℕ) (ks : List ℕ) → IsSound ks counted edge moves → ComesLast t (line_of ks edge moves) → t < 2 ^ 64 - 1 → IsRising (ks ++ t ∷ []) → IsSound (ks ++ t ∷ []) counted edge moves
sound_pushed t counted edge moves ks sound last small rising = record {
  rising = rising;
  numbered = All-push (λ n. n < 2 ^ 64 - 1) ks t sound.numbered small;
  counted_right = sound.counted_right ∙ sym (below-joined t edge ks last.beyond);
  few_moves = sound.few_moves;
  few_entitled = sound.few_entitled;
}

pub sound_without : (t counted fewer edge moves : ℕ) (ks : List ℕ) → IsSound ks counted edge moves → fewer + cond (has t ks && nat_lt t edge) 1 0 ≡ counted → IsRising (left_out t ks) → IsSound (left_out t ks) fewer edge moves
sound_without t counted fewer edge moves ks sound one rising = record {
  rising = rising;
  numbered = All-filter (λ n. not (n == t)) (λ n. n < 2 ^ 64 - 1) ks sound.numbered;
  counted_right = omega (arith, below-left_out t edge ks sound.rising, sound.counted_right);
  few_moves = sound.few_moves;
  few_entitled = omega (arith, sound.few_entitled);
}

pub sound_passed : (n counted edge moves : ℕ) (ks : List ℕ) → IsSound ks counted edge moves → find (λ k. not (nat_lt k edge)) ks ≡ Some n → IsSound ks (counted + 1) (n + 1) (moves + 1)
sound_passed n counted edge moves ks sound is = record {
  rising = sound.rising;
  numbered = sound.numbered;
  counted_right = omega (arith, below-passed edge n ks sound.rising is, sound.counted_right);
  few_moves = omega (arith, not_below edge n ks is, sound.few_moves);
  few_entitled = omega (arith, sound.few_entitled);
}

-- what is found is there
pub numbered_found : (e n m : ℕ) (ks : List ℕ) → All (λ k. k < m) ks → find (λ k. not (nat_lt k e)) ks ≡ Some n → n < m
numbered_found e n m [] all is = cc
numbered_found e n m (k ∷ ks) all is = by (numbered_found e n m ks (All-tail (λ k. k < m) k ks all)) (nat_lt k e) is
  where
    by : (find (λ k. not (nat_lt k e)) ks ≡ Some n → n < m) → (b : Bool) → cond (not b) (Some k) (find (λ k. not (nat_lt k e)) ks) ≡ Some n → n < m
    by rest true is = rest is
    by rest false is = let same : k ≡ n = cc in let here : k < m = All-head (λ k. k < m) k ks all in omega arith

-- where some are left over, one is found
pub some_found : (e : ℕ) (ks : List ℕ) → below e ks < length ks → find (λ k. not (nat_lt k e)) ks ≡ None → ⊥
some_found e [] l is = omega arith
some_found e (k ∷ ks) l is = by (some_found e ks) l (nat_lt k e) refl is
  where
    by : (below e ks < length ks → find (λ k. not (nat_lt k e)) ks ≡ None → ⊥) → below e (k ∷ ks) < length (k ∷ ks) → (b : Bool) → nat_lt k e ≡ b → cond (not b) (Some k) (find (λ k. not (nat_lt k e)) ks) ≡ None → ⊥
    by rest l true m is = let b : k < e = grind (arith, nat_tests) in rest (omega (arith, one_more e k ks, weight e k)) is
    by rest l false m is = cc

none_left : (t : ℕ) (ks : List ℕ) → has t ks ≡ false → left_out t ks ≡ ks
none_left t [] e = refl
none_left t (k ∷ ks) e = by (none_left t ks) (k == t) e
  where
    by : (has t ks ≡ false → left_out t ks ≡ ks) → (b : Bool) → (b || has t ks) ≡ false → cond (not b) (k ∷ left_out t ks) (left_out t ks) ≡ k ∷ ks
    by rest true e = cc
    by rest false e = ap (λ l. k ∷ l) (rest e)

-- a ticket that doesn't wait leaves the line as it is
pub without_none : (t : ℕ) (line : TicketLine) → is_waiting t line ≡ false → without t line ≡ line
without_none t line e = ap (λ ks. line_of ks line.edge line.moves) (none_left t line.waiting e)
