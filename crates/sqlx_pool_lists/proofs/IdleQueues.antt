-- Idle connections in turn, and bounds of their moments.
use Rattle.std.proofs.Common.{zero, ◌≡◌, ℕ, suc, ◌-◌, ◌≤◌, List, [], ◌∷◌, ◌++◌, length, refl, ap, ◌∙◌, arith, find, get_or, Bool, true, false, cond, Option, Some, None, ◌||◌, ◌<◌, ◌+◌, map, take, drop, not, ltb, IfSome, IfNone, IsSome, append_assoc}
use Rattle.std.specs.Prelude.{option_to_list}
use Rattle.std.specs.List.{AllByRecursion, position_or_len}
use Rattle.sqlx_pool_marks.specs.EventTable.{is_beyond}
use Rattle.sqlx_pool_lists.specs.declared.options.PoolOptions.{PoolOptions}
use Rattle.sqlx_pool_lists.specs.declared.steps.Idle.{Idle}
use Rattle.sqlx_pool_lists.specs.MaintenanceSteps.{is_reaped_at, without_first}
use Rattle.sqlx_pool_lists.specs.IdleList.{AreOpenedFrom, AreRestingFrom, AreRestingBy, AreInTurn, AreBounded}

-- ---- of all

module _ {X : Type 0} where
  pub all-each : {P Q : X → Type 0} → ((x : X) → P x → Q x) → (xs : List X) → AllByRecursion P xs → AllByRecursion Q xs
  all-each f [] h = tt
  all-each f (x ∷ xs) h = (f x h.0, all-each f xs h.1)

  pub all-push : (P : X → Type 0) (xs : List X) (x : X) → AllByRecursion P xs → P x → AllByRecursion P (xs ++ x ∷ [])
  all-push P [] x h k = (k, tt)
  all-push P (y ∷ ys) x h k = (h.0, all-push P ys x h.1 k)

  pub all-map : {Y : Type 0} (P : Y → Type 0) (v : X → Y) (xs : List X) → AllByRecursion (λ x. P (v x)) xs → AllByRecursion P (map v xs)
  all-map P v [] h = tt
  all-map P v (x ∷ xs) h = (h.0, all-map P v xs h.1)

  -- ---- two rows

  -- one more goes from the front of a row to the end of the row before it
  pub moved : (n : ℕ) (front back front' back' : List X) (x : X) → 0 < n → back ≡ x ∷ back' → front' ≡ front ++ x ∷ [] → (front' ++ take (n - 1) back' ≡ front ++ take n back) × (drop (n - 1) back' ≡ drop n back)
  moved zero front back front' back' x some taken put = absurd (omega (arith, some))
  moved (suc k) front back front' back' x some taken put =
      let e : suc k - 1 ≡ k = omega arith in
      rw (e, taken, put) (append_assoc front (x ∷ []) (take k back'), refl)

  pub take-none : (n : ℕ) → take {A = X} n [] ≡ []
  take-none zero = refl
  take-none (suc n) = refl

  pub drop-none : (n : ℕ) → drop {A = X} n [] ≡ []
  drop-none zero = refl
  drop-none (suc n) = refl

module _ {C : Type 0} where
  -- ---- in turn

  pub in-turn-push : (xs : List (Idle C)) (i : Idle C) → AreInTurn xs → AreRestingBy i.since.0 xs → AreInTurn (xs ++ i ∷ [])
  in-turn-push [] i h k = (tt, tt)
  in-turn-push (x ∷ xs) i h k = (all-push _ xs i h.0 k.0, in-turn-push xs i h.1 k.1)

  -- all rested when the last came
  pub by-last : (xs : List (Idle C)) (y : Idle C) → AreInTurn xs → y ≡ get_or xs (length xs - 1) y → AreRestingBy y.since.0 xs
  by-last [] y h e = tt
  by-last (x ∷ []) y h e = (let same : y ≡ x = e in rw same (omega arith), tt)
  by-last (x ∷ z ∷ zs) y h e =
      let n : length (x ∷ z ∷ zs) - 1 ≡ suc (length (z ∷ zs) - 1) = omega arith in
      let rest = by-last (z ∷ zs) y h.1 (e ∙ ap (λ k. get_or (x ∷ z ∷ zs) k y) n) in
      let a = h.0.0 in let b = rest.0 in
      (omega (arith, a, b), rest)

  -- none rested before the first
  pub from-first : (xs : List (Idle C)) (y : Idle C) → AreInTurn xs → y ≡ get_or xs 0 y → AreRestingFrom y.since.0 xs
  from-first [] y h e = tt
  from-first (x ∷ xs) y h e = let same : y ≡ x = e in let le : y.since.0 ≤ x.since.0 = rw same (omega arith) in (le, all-each (λ z k. omega (arith, k, le)) xs h.0)

  pub from-nothing : (xs : List (Idle C)) → AreRestingFrom 0 xs
  from-nothing [] = tt
  from-nothing (x ∷ xs) = (omega arith, from-nothing xs)

  -- ---- the bounds behind each edit

  pub bounded-taken : (r : Option (Idle C)) (old new : List (Idle C)) (from : ℕ) (in_turn : Bool) → AreBounded old from in_turn → old ≡ option_to_list r ++ new → AreBounded new from in_turn
  bounded-taken None old new from in_turn h e = let same : old ≡ new = e in rw (← same) h
  bounded-taken (Some i) old new from in_turn h e =
      let k : AreBounded (i ∷ new) from in_turn = rw e at h in
      record { opened = k.opened.1; resting = λ t. (k.resting t).1 }

  all_front : (P : Idle C → Type 0) (xs ys : List (Idle C)) → AllByRecursion P (xs ++ ys) → AllByRecursion P xs
  all_front P [] ys h = tt
  all_front P (x ∷ xs) ys h = (h.0, all_front P xs ys h.1)

  in_turn_front : (xs ys : List (Idle C)) → AreInTurn (xs ++ ys) → AreInTurn xs
  in_turn_front [] ys h = tt
  in_turn_front (x ∷ xs) ys h = (all_front _ xs ys h.0, in_turn_front xs ys h.1)

  pub bounded-front : (r : Option (Idle C)) (old new : List (Idle C)) (from : ℕ) (in_turn : Bool) → AreBounded old from in_turn → old ≡ new ++ option_to_list r → AreBounded new from in_turn
  bounded-front r old new from in_turn h e =
      let k : AreBounded (new ++ option_to_list r) from in_turn = rw e at h in
      record { opened = all_front _ new (option_to_list r) k.opened; resting = λ t. in_turn_front new (option_to_list r) (k.resting t) }

  pub bounded-put : (old : List (Idle C)) (i : Idle C) (new : List (Idle C)) (from : ℕ) (in_turn : Bool) → AreOpenedFrom from old → from ≤ i.lent.created.0
      → (in_turn ≡ true → AreRestingFrom i.since.0 old × AreInTurn old) → new ≡ i ∷ old → AreBounded new from in_turn
  bounded-put old i new from in_turn opened one turned e = rw e (record { opened = (one, opened); resting = λ t. turned t })

  pub rests-from-earlier : (from since : ℕ) → since ≤ from → (xs : List (Idle C)) → AreRestingFrom from xs → AreRestingFrom since xs
  rests-from-earlier from since le xs h = all-each (λ x k. omega (arith, k, le)) xs h

  pub rests-by-later : (by since : ℕ) → by ≤ since → (xs : List (Idle C)) → AreRestingBy by xs → AreRestingBy since xs
  rests-by-later by since le xs h = all-each (λ x k. omega (arith, k, le)) xs h

  pub bounded-pushed : (old : List (Idle C)) (i : Idle C) (new : List (Idle C)) (from : ℕ) (in_turn : Bool) → AreOpenedFrom from old → from ≤ i.lent.created.0
      → (in_turn ≡ true → AreInTurn old × AreRestingBy i.since.0 old) → new ≡ old ++ i ∷ [] → AreBounded new from in_turn
  bounded-pushed old i new from in_turn opened one turned e = rw e (record {
    opened = all-push _ old i opened one;
    resting = λ t. let both = turned t in in-turn-push old i both.0 both.1;
  })

-- ---- the first that passes a test

-- none passes before the place of the first
pub none-before : {X : Type 0} (p : X → Bool) (xs : List X) (at : ℕ) → at ≡ position_or_len p xs → find p (take at xs) ≡ None
none-before p [] at e = rw e refl
none-before {X} p (x ∷ xs) at e = by (none-before p xs) (p x) refl e
  where
    by : ((at : ℕ) → at ≡ position_or_len p xs → find p (take at xs) ≡ None) → (b : Bool) → p x ≡ b → at ≡ cond (not b) (1 + position_or_len p xs) 0 → find p (take at (x ∷ xs)) ≡ None
    by rest true is z = rw z refl
    by rest false is z = let s : at ≡ suc (position_or_len p xs) = omega (arith, z) in rw (s, is) (rest (position_or_len p xs) refl)

-- so many of the first are all, where there are no more
pub take-all : {X : Type 0} (n : ℕ) (xs : List X) → length xs ≤ n → take n xs ≡ xs
take-all n [] h = take-none n
take-all zero (x ∷ xs) h = absurd (omega (arith, h))
take-all (suc n) (x ∷ xs) h = ap (λ l. x ∷ l) (take-all n xs (omega (arith, h)))

pub some-left : {X : Type 0} (xs : List X) (at : ℕ) → at < length xs → 0 < length (drop at xs)
some-left [] at h = absurd (omega (arith, h))
some-left (x ∷ xs) zero h = omega arith
some-left (x ∷ xs) (suc at) h = some-left xs at (omega (arith, h))

module _ {X : Type 0} (p : X → Bool) where
  none_found : (xs : List X) → length xs ≤ position_or_len p xs → find p xs ≡ None
  none_found [] h = refl
  none_found (x ∷ xs) h = by (none_found xs) (p x) h
    where
      by : (length xs ≤ position_or_len p xs → find p xs ≡ None) → (b : Bool) → suc (length xs) ≤ cond (not b) (1 + position_or_len p xs) 0 → cond b (Some x) (find p xs) ≡ None
      by further true k = absurd (omega (arith, k))
      by further false k = further (omega (arith, k))

  -- no place is found where none passes
  pub no-place : (xs : List X) (o : Option ℕ) → o ≡ cond (ltb (position_or_len p xs) (length xs)) (Some (position_or_len p xs)) None → IfNone o (find p xs ≡ None)
  no-place xs (Some at) e = tt
  no-place xs None e = by (ltb (position_or_len p xs) (length xs)) refl e
    where
      by : (b : Bool) → ltb (position_or_len p xs) (length xs) ≡ b → None ≡ cond b (Some (position_or_len p xs)) None → find p xs ≡ None
      by true is e = absurd cc
      by false is e = none_found xs (grind (arith, is))

  -- a place that is found is that of the first that passes
  pub first-place : (xs : List X) (o : Option ℕ) → o ≡ cond (ltb (position_or_len p xs) (length xs)) (Some (position_or_len p xs)) None → IfSome o (λ at. (at ≡ position_or_len p xs) × (at < length xs))
  first-place xs None e = tt
  first-place xs (Some at) e = by (ltb (position_or_len p xs) (length xs)) refl e
    where
      by : (b : Bool) → ltb (position_or_len p xs) (length xs) ≡ b → Some at ≡ cond b (Some (position_or_len p xs)) None → (at ≡ position_or_len p xs) × (at < length xs)
      by true is e = let same : at ≡ position_or_len p xs = cc in (same, grind (arith, is, same))
      by false is e = absurd cc

  -- what is taken from that place is the first, and the others are left
  pub first-there : (xs : List X) (at : ℕ) (r : Option X) (new : List X) → at ≡ position_or_len p xs → at < length xs → drop at xs ≡ option_to_list r ++ new → IsSome r → (r ≡ find p xs) × (take at xs ++ new ≡ without_first p xs)
  first-there [] at r new e h d some = absurd (omega (arith, h))
  first-there (x ∷ xs) at r new e h d some = by (first-there xs) (p x) e
    where
      here : (r : Option X) (new : List X) → x ∷ xs ≡ option_to_list r ++ new → IsSome r → (r ≡ Some x) × (new ≡ xs)
      here None new d some = absurd cc
      here (Some y) new d some = let same : y ≡ x = cc in let left : new ≡ xs = cc in (ap Some same, left)

      by : ((at : ℕ) (r : Option X) (new : List X) → at ≡ position_or_len p xs → at < length xs → drop at xs ≡ option_to_list r ++ new → IsSome r → (r ≡ find p xs) × (take at xs ++ new ≡ without_first p xs))
          → (b : Bool) → at ≡ cond (not b) (1 + position_or_len p xs) 0 → (r ≡ cond b (Some x) (find p xs)) × (take at (x ∷ xs) ++ new ≡ cond b xs (x ∷ without_first p xs))
      by rest true z = let both = here r new (rw z at d) some in (both.0, rw z both.1)
      by rest false z =
          let s : at ≡ suc (position_or_len p xs) = omega (arith, z) in
          let both = rest (position_or_len p xs) r new refl (omega (arith, h, s)) (rw s at d) some in
          (both.0, rw s (ap (λ l. x ∷ l) both.1))

-- ---- beyond a limit

beyond-less : (limit : Option ℕ) (a b : ℕ) → b ≤ a → is_beyond limit a ≡ false → is_beyond limit b ≡ false
beyond-less None a b le e = refl
beyond-less (Some l) a b le e = grind (arith, le, e)

both-false : (a b : Bool) → (a || b) ≡ false → (a ≡ false) × (b ≡ false)
both-false true b e = absurd cc
both-false false b e = (refl, e)

-- where the longest rest and the greatest age are within their limits, nothing is beyond one
pub none-beyond : {C : Type 0} (options : PoolOptions) (m since from : ℕ) (xs : List (Idle C)) → AreRestingFrom since xs → AreOpenedFrom from xs
    → (is_beyond options.idle_timeout (m - since) || is_beyond options.max_lifetime (m - from)) ≡ false → find (is_reaped_at options m) xs ≡ None
none-beyond options m since from [] rests opened e = refl
none-beyond options m since from (x ∷ xs) rests opened e =
    let both = both-false _ _ e in
    let le = rests.0 in let up = opened.0 in
    let r = beyond-less options.idle_timeout (m - since) (m - x.since.0) (omega (arith, le)) both.0 in
    let a = beyond-less options.max_lifetime (m - from) (m - x.lent.created.0) (omega (arith, up)) both.1 in
    let here : is_reaped_at options m x ≡ false = rw (r, a) refl in
    rw here (none-beyond options m since from xs rests.1 opened.1 e)

-- where none is found in front, what stands in front changes nothing
pub found-behind : {X : Type 0} (p : X → Bool) (xs ys : List X) → find p xs ≡ None → (find p (xs ++ ys) ≡ find p ys) × (without_first p (xs ++ ys) ≡ xs ++ without_first p ys)
found-behind p [] ys e = (refl, refl)
found-behind {X} p (x ∷ xs) ys e = by (found-behind p xs ys) (p x) e
  where
    by : (find p xs ≡ None → (find p (xs ++ ys) ≡ find p ys) × (without_first p (xs ++ ys) ≡ xs ++ without_first p ys)) → (b : Bool) → cond b (Some x) (find p xs) ≡ None
        → (cond b (Some x) (find p (xs ++ ys)) ≡ find p ys) × (cond b (xs ++ ys) (x ∷ without_first p (xs ++ ys)) ≡ x ∷ (xs ++ without_first p ys))
    by rest true k = absurd cc
    by rest false k = let both = rest k in (both.0, ap (λ l. x ∷ l) both.1)

-- the list is no longer without an element than with it
pub no-longer : {X : Type 0} (p : X → Bool) (xs : List X) → length (without_first p xs) ≤ length xs
no-longer p [] = omega arith
no-longer {X} p (x ∷ xs) = by (no-longer p xs) (p x)
  where
    by : length (without_first p xs) ≤ length xs → (b : Bool) → length (cond b xs (x ∷ without_first p xs)) ≤ length (x ∷ xs)
    by rest true = omega arith
    by rest false = omega (arith, rest)

-- where none is found, none is left out
pub all-left : {X : Type 0} (p : X → Bool) (xs : List X) → find p xs ≡ None → without_first p xs ≡ xs
all-left p [] e = refl
all-left {X} p (x ∷ xs) e = by (all-left p xs) (p x) e
  where
    by : (find p xs ≡ None → without_first p xs ≡ xs) → (b : Bool) → cond b (Some x) (find p xs) ≡ None → cond b xs (x ∷ without_first p xs) ≡ x ∷ xs
    by rest true k = absurd cc
    by rest false k = ap (λ l. x ∷ l) (rest k)
