-- Own writes at their places: where each key stands once, the map of the list is changed by a change at one place.
use Rattle.std.proofs.Common.{◌≡◌, ℕ, ℤ, zero, suc, ◌==◌, inl, inr, Bool, true, false, cond, List, [], ◌∷◌, ◌++◌, length, Option, Some, None, refl, sym, ap, subst, ◌∙◌, arith, slice_get, slice_set, get_or, ◌<◌, to_z-of_z}
use mir.Val.{SFits, of_z, to_z}
use Rattle.std.specs.Int.{w64}
use Rattle.std.specs.Ordering.{int_cmp, eq_by_cmp}
use Rattle.std.specs.Cmp.{int_cmp_total, eq_by_cmp_equiv}
use Rattle.std.specs.FinMap.{get, insert, remove, from_entries, find, get-insert, get-remove, get-from_entries, same_map, int_cmp-IsAntisymmetric}
use Rattle.std.proofs.lemmas.Bool.Decides.{eqb_tells}
use Rattle.sqlx_pool_places.specs.Numbered.{items_at, HasNone, IsFirstAt}
use Rattle.sqlx_pool_places.proofs.Places.{Sides, sides}
use Rattle.mem_store.specs.OwnWrites.{number_of, StandOnce, StandsAt}
use Rattle.mem_store.specs.UndoLog.{put_back}
use Rattle.mem_store.proofs.Trees.{tied}

abbrev pub Pairs : Type 0
Pairs = List (ℤ × Option ℤ)

-- ---- two keys

-- keys that tie are equal
pub same_key : (q key : ℤ) → eq_by_cmp int_cmp q key ≡ true → q ≡ key
same_key q key e = int_cmp-IsAntisymmetric q key (tied _ e)

-- a key ties with itself
pub key_itself : (key : ℤ) → eq_by_cmp int_cmp key key ≡ true
key_itself key = (eq_by_cmp_equiv int_cmp_total).refl key

-- a key that isn't found isn't the first's
not-first : (q : ℤ) (x : ℤ × Option ℤ) (rest : Pairs) → find int_cmp q (x ∷ rest) ≡ None → (eq_by_cmp int_cmp q x.0 ≡ false) × (find int_cmp q rest ≡ None)
not-first q x rest none = by (eq_by_cmp int_cmp q x.0) refl none
  where
    by : (b : Bool) → eq_by_cmp int_cmp q x.0 ≡ b → cond b (Some x.1) (find int_cmp q rest) ≡ None → (eq_by_cmp int_cmp q x.0 ≡ false) × (find int_cmp q rest ≡ None)
    by true e n = absurd cc
    by false e n = (e, n)

-- ---- a key that stands somewhere

pub find-here : (before after : Pairs) (key : ℤ) (value : Option ℤ) → find int_cmp key before ≡ None → find int_cmp key (before ++ (key, value) ∷ after) ≡ Some value
find-here [] after key value none = rw (key_itself key) refl
find-here (x ∷ before) after key value none =
    let u = not-first key x before none in
    rw u.0 (find-here before after key value u.1)

pub find-past : (before after : Pairs) (key : ℤ) (value : Option ℤ) (q : ℤ) → eq_by_cmp int_cmp q key ≡ false → find int_cmp q (before ++ (key, value) ∷ after) ≡ find int_cmp q (before ++ after)
find-past [] after key value q other = rw other refl
find-past (x ∷ before) after key value q other = ap (cond (eq_by_cmp int_cmp q x.0) (Some x.1)) (find-past before after key value q other)

pub find-after : (before after : Pairs) (key : ℤ) → find int_cmp key before ≡ None → find int_cmp key (before ++ after) ≡ find int_cmp key after
find-after [] after key none = refl
find-after (x ∷ before) after key none = let u = not-first key x before none in rw u.0 (find-after before after key u.1)

-- without the one that stands somewhere, no more is found
pub none-without : (before after : Pairs) (key : ℤ) (value : Option ℤ) (q : ℤ) → find int_cmp q (before ++ (key, value) ∷ after) ≡ None → (eq_by_cmp int_cmp q key ≡ false) × (find int_cmp q (before ++ after) ≡ None)
none-without [] after key value q none = not-first q (key, value) after none
none-without (x ∷ before) after key value q none =
    let u = not-first q x (before ++ (key, value) ∷ after) none in
    let r = none-without before after key value q u.1 in
    (r.0, rw (u.0, r.1) refl)

-- ---- where each key stands once

-- no other of its key stands before
pub first-once : (before after : Pairs) (key : ℤ) (value : Option ℤ) → StandOnce (before ++ (key, value) ∷ after) → find int_cmp key before ≡ None
first-once [] after key value once = refl
first-once (x ∷ before) after key value once =
    let other = none-without before after key value x.0 once.0.1 in
    let apart : eq_by_cmp int_cmp key x.0 ≡ false = (eq_by_cmp_equiv int_cmp_total).symm key x.0 ∙ other.0 in
    rw apart (first-once before after key value once.1)

-- nor behind
pub last-once : (before after : Pairs) (key : ℤ) (value : Option ℤ) → StandOnce (before ++ (key, value) ∷ after) → find int_cmp key after ≡ None
last-once [] after key value once = once.0.1
last-once (x ∷ before) after key value once = last-once before after key value once.1

pub fits-once : (before after : Pairs) (key : ℤ) (value : Option ℤ) → StandOnce (before ++ (key, value) ∷ after) → SFits w64 key
fits-once [] after key value once = once.0.0
fits-once (x ∷ before) after key value once = fits-once before after key value once.1

pub once-gone : (before after : Pairs) (key : ℤ) (value : Option ℤ) → StandOnce (before ++ (key, value) ∷ after) → StandOnce (before ++ after)
once-gone [] after key value once = once.1
once-gone (x ∷ before) after key value once = ((once.0.0, (none-without before after key value x.0 once.0.1).1), once-gone before after key value once.1)

pub once-changed : (before after : Pairs) (key : ℤ) (value new : Option ℤ) → StandOnce (before ++ (key, value) ∷ after) → StandOnce (before ++ (key, new) ∷ after)
once-changed [] after key value new once = once
once-changed (x ∷ before) after key value new once =
    let other = none-without before after key value x.0 once.0.1 in
    ((once.0.0, find-past before after key new x.0 other.0 ∙ other.1), once-changed before after key value new once.1)

none-pushed : (entries : Pairs) (key : ℤ) (value : Option ℤ) (q : ℤ) → find int_cmp q entries ≡ None → eq_by_cmp int_cmp q key ≡ false → find int_cmp q (entries ++ (key, value) ∷ []) ≡ None
none-pushed [] key value q none other = rw other refl
none-pushed (x ∷ entries) key value q none other = let u = not-first q x entries none in rw u.0 (none-pushed entries key value q u.1 other)

pub once-pushed : (entries : Pairs) (key : ℤ) (value : Option ℤ) → SFits w64 key → StandOnce entries → find int_cmp key entries ≡ None → StandOnce (entries ++ (key, value) ∷ [])
once-pushed [] key value fits once none = ((fits, refl), tt)
once-pushed (x ∷ entries) key value fits once none =
    let u = not-first key x entries none in
    let apart : eq_by_cmp int_cmp x.0 key ≡ false = (eq_by_cmp_equiv int_cmp_total).symm x.0 key ∙ u.0 in
    ((once.0.0, none-pushed entries key value x.0 once.0.1 apart), once-pushed entries key value fits once.1 u.1)

-- ---- the map

changed-at : (before after : Pairs) (key : ℤ) (value new : Option ℤ) (q : ℤ) (b : Bool) → eq_by_cmp int_cmp q key ≡ b → find int_cmp key before ≡ None
    → find int_cmp q (before ++ (key, new) ∷ after) ≡ cond b (Some new) (find int_cmp q (before ++ (key, value) ∷ after))
changed-at before after key value new q true e none = rw (same_key q key e) (find-here before after key new none)
changed-at before after key value new q false e none = find-past before after key new q e ∙ sym (find-past before after key value q e)

pub map-changed : (before after : Pairs) (key : ℤ) (value new : Option ℤ) → find int_cmp key before ≡ None
    → from_entries {R = int_cmp} (before ++ (key, new) ∷ after) ≡ insert (from_entries {R = int_cmp} (before ++ (key, value) ∷ after)) key new
map-changed before after key value new none = same_map int_cmp_total int_cmp-IsAntisymmetric _ _ (λ q.
    get-from_entries int_cmp_total _ q
    ∙ changed-at before after key value new q (eq_by_cmp int_cmp q key) refl none
    ∙ sym (get-insert int_cmp_total (from_entries (before ++ (key, value) ∷ after)) key new q ∙ ap (cond (eq_by_cmp int_cmp q key) (Some new)) (get-from_entries int_cmp_total (before ++ (key, value) ∷ after) q)))

gone-at : (before after : Pairs) (key : ℤ) (value : Option ℤ) (q : ℤ) (b : Bool) → eq_by_cmp int_cmp q key ≡ b → find int_cmp key before ≡ None → find int_cmp key after ≡ None
    → find int_cmp q (before ++ after) ≡ cond b None (find int_cmp q (before ++ (key, value) ∷ after))
gone-at before after key value q true e none last = rw (same_key q key e) (find-after before after key none ∙ last)
gone-at before after key value q false e none last = sym (find-past before after key value q e)

pub map-gone : (before after : Pairs) (key : ℤ) (value : Option ℤ) → find int_cmp key before ≡ None → find int_cmp key after ≡ None
    → from_entries {R = int_cmp} (before ++ after) ≡ remove (from_entries {R = int_cmp} (before ++ (key, value) ∷ after)) key
map-gone before after key value none last = same_map int_cmp_total int_cmp-IsAntisymmetric _ _ (λ q.
    get-from_entries int_cmp_total _ q
    ∙ gone-at before after key value q (eq_by_cmp int_cmp q key) refl none last
    ∙ sym (get-remove int_cmp_total (from_entries (before ++ (key, value) ∷ after)) key q ∙ ap (cond (eq_by_cmp int_cmp q key) None) (get-from_entries int_cmp_total (before ++ (key, value) ∷ after) q)))

-- what isn't there is put back without a change
pub map-unfound : (entries : Pairs) (key : ℤ) (before : Option (Option ℤ)) → find int_cmp key entries ≡ None → from_entries {R = int_cmp} entries ≡ put_back key before (from_entries {R = int_cmp} entries)
map-unfound entries key None none = same_map int_cmp_total int_cmp-IsAntisymmetric _ _ (λ q.
    sym (get-remove int_cmp_total (from_entries entries) key q
    ∙ unfound q (eq_by_cmp int_cmp q key) refl))
  where
    unfound : (q : ℤ) (b : Bool) → eq_by_cmp int_cmp q key ≡ b → cond b None (get (from_entries {R = int_cmp} entries) q) ≡ get (from_entries {R = int_cmp} entries) q
    unfound q true e = rw (same_key q key e) (sym (get-from_entries int_cmp_total entries key ∙ none))
    unfound q false e = refl
map-unfound entries key (Some value) none = rw (get-from_entries int_cmp_total entries key ∙ none) refl

-- ---- at the places

unequal : (n m : ℕ) → (n == m) ≡ false → n ≡ m → ⊥
unequal n m apart same = elim (eqb_tells n m) [
  | inl is ↦ let t : true ≡ false = sym is.0 ∙ apart in cc
  | inr is ↦ is.1 same
]

-- no place has the key where none has its number
pub none-at : (n : ℕ) (key : ℤ) (places : List (Option (ℤ × Option ℤ))) → n ≡ of_z w64 key → HasNone number_of n places (length places) → find int_cmp key (items_at places) ≡ None
none-at n key [] is none = refl
none-at n key (None ∷ rest) is none = none-at n key rest is (λ i y e lt. none (suc i) y e (omega (arith, lt)))
none-at n key (Some x ∷ rest) is none = other (eq_by_cmp int_cmp key x.0) refl ∙ none-at n key rest is (λ i y f lt. none (suc i) y f (omega (arith, lt)))
  where
    other : (b : Bool) → eq_by_cmp int_cmp key x.0 ≡ b → cond b (Some x.1) (find int_cmp key (items_at rest)) ≡ find int_cmp key (items_at rest)
    other true e = absurd (unequal n (of_z w64 x.0) (none 0 x refl (omega arith)) (is ∙ ap (of_z w64) (same_key key x.0 e)))
    other false e = refl

module _ (key : ℤ) (places : List (Option (ℤ × Option ℤ))) (place : ℕ) (once : StandOnce (items_at places)) where
  -- the first of the key's number is the key's
  pub stands-at : (n : ℕ) → n ≡ of_z w64 key → SFits w64 key → IsFirstAt number_of n places place → StandsAt key places place
  stands-at n is fits at =
      let s = sides places place at.thing at.stands in
      let own : SFits w64 at.thing.0 = fits-once s.before s.after at.thing.0 at.thing.1 (subst StandOnce s.whole once) in
      let same : at.thing.0 ≡ key = sym (to_z-of_z own) ∙ ap (to_z w64) (at.is ∙ is) ∙ to_z-of_z fits in
      record { value = at.thing.1; stands = at.stands ∙ ap (λ k. Some (Some (k, at.thing.1))) same }

  module _ (at : StandsAt key places place) where
    split : Sides places place (key, at.value)
    split = sides places place (key, at.value) at.stands

    whole : StandOnce (split.before ++ (key, at.value) ∷ split.after)
    whole = subst StandOnce split.whole once

    first : find int_cmp key split.before ≡ None
    first = first-once split.before split.after key at.value whole

    pub get-at : get (from_entries {R = int_cmp} (items_at places)) key ≡ Some at.value
    get-at = get-from_entries int_cmp_total (items_at places) key ∙ ap (find int_cmp key) split.whole ∙ find-here split.before split.after key at.value first

    pub written-at : (new : Option ℤ) → from_entries {R = int_cmp} (items_at (slice_set places place (Some (key, new)))) ≡ insert (from_entries {R = int_cmp} (items_at places)) key new
    written-at new = rw (split.changed (key, new), split.whole) (map-changed split.before split.after key at.value new first)

    pub back-at : (new : Option ℤ) → from_entries {R = int_cmp} (items_at (slice_set places place (Some (key, new)))) ≡ put_back key (Some new) (from_entries {R = int_cmp} (items_at places))
    back-at new = rw get-at (written-at new)

    pub written-once : (new : Option ℤ) → StandOnce (items_at (slice_set places place (Some (key, new))))
    written-once new = subst StandOnce (sym (split.changed (key, new))) (once-changed split.before split.after key at.value new whole)

    pub gone-once : StandOnce (items_at (slice_set places place None))
    gone-once = subst StandOnce (sym split.gone) (once-gone split.before split.after key at.value whole)

    pub gone-from : from_entries {R = int_cmp} (items_at (slice_set places place None)) ≡ remove (from_entries {R = int_cmp} (items_at places)) key
    gone-from = rw (split.gone, split.whole) (map-gone split.before split.after key at.value first (last-once split.before split.after key at.value whole))

-- what stands at a place is what is read there
pub read-at : {Y : Type 0} (xs : List Y) (i : ℕ) (y d : Y) → slice_get xs i ≡ Some y → d ≡ get_or xs i d → d ≡ y
read-at [] i y d e r = absurd cc
read-at (x ∷ xs) zero y d e r = r ∙ (let same : x ≡ y = cc in same)
read-at (x ∷ xs) (suc i) y d e r = read-at xs i y d e r

pub within-at : {Y : Type 0} (xs : List Y) (i : ℕ) (y : Y) → slice_get xs i ≡ Some y → i < length xs
within-at [] i y e = absurd cc
within-at (x ∷ xs) zero y e = omega arith
within-at (x ∷ xs) (suc i) y e = let r = within-at xs i y e in omega (arith, r)

pub not-gap : (r : Option (ℤ × Option ℤ)) (key : ℤ) (value : Option ℤ) → r ≡ Some (key, value) → r ≡ None → ⊥
not-gap r key value e f = cc

abbrev value_of : Option (ℤ × Option ℤ) → Option (Option ℤ)
value_of (Some write) = Some write.1
value_of None = None

pub same-value : (r : Option (ℤ × Option ℤ)) (key other : ℤ) (value new : Option ℤ) → r ≡ Some (key, value) → r ≡ Some (other, new) → Some new ≡ Some value
same-value r key other value new e f = sym (ap value_of f) ∙ ap value_of e
