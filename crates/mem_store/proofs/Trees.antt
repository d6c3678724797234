-- A sorted tree's list of entries, read as a finite map.
use Rattle.std.proofs.Common.{◌≡◌, ℤ, true, cond, List, [], ◌∷◌, Option, Some, None, Less, Equal, Greater, Ordering, is_eq, is_lt, ◌&&◌, T, refl, sym, ap, subst, ◌∙◌}
use Rattle.std.specs.Ordering.{int_cmp, eq_by_cmp}
use Rattle.std.specs.Cmp.{int_cmp_total, eq_by_cmp_equiv}
use Rattle.std.specs.BTreeMap.{is_at}
use Rattle.std.specs.Map.{lookup, keys_of}
use Rattle.std.specs.List.{AllByRecursion}
use Rattle.std.specs.List.Sorted.{IsStrictlySortedBy}
use Rattle.std.specs.FinMap.Entries.{below_all, is_sorted}
use Rattle.std.specs.FinMap.{get, insert, remove, entries, from_entries, from_sorted, entries-from_sorted, get-from_sorted, find, get-insert, get-remove, get-from_entries, same_map, int_cmp-IsAntisymmetric}

-- what a tree finds at a key
abbrev pub found : {X : Type 0} → List (ℤ × X) → ℤ → Option X
found entries key = lookup (is_at (int_cmp key)) entries

pub found-find : {X : Type 0} (entries : List (ℤ × X)) (key : ℤ) → found entries key ≡ find int_cmp key entries
found-find [] key = refl
found-find (entry ∷ entries) key = ap (cond (eq_by_cmp int_cmp key entry.0) (Some entry.1)) (found-find entries key)

-- the finite map of the entries answers what the tree finds
pub get-found : {X : Type 0} (entries : List (ℤ × X)) (key : ℤ) → get (from_entries {R = int_cmp} entries) key ≡ found entries key
get-found entries key = get-from_entries int_cmp_total entries key ∙ sym (found-find entries key)

-- the value at the key is new, all others stay
abbrev pub Updated : {X : Type 0} → List (ℤ × X) → List (ℤ × X) → ℤ → Option X → Type 0
Updated old new key value = (q : ℤ) → found new q ≡ cond (is_at (int_cmp key) q) value (found old q)

either_way : {X : Type 0} (key q : ℤ) (value below : Option X) → cond (is_at (int_cmp key) q) value below ≡ cond (eq_by_cmp int_cmp q key) value below
either_way key q value below = ap (λ b. cond b value below) ((eq_by_cmp_equiv int_cmp_total).symm key q)

pub from_entries-insert : {X : Type 0} (old new : List (ℤ × X)) (key : ℤ) (value : X) → Updated old new key (Some value) → from_entries {R = int_cmp} new ≡ insert (from_entries {R = int_cmp} old) key value
from_entries-insert old new key value is = same_map int_cmp_total int_cmp-IsAntisymmetric _ _ (λ q.
    get-found new q ∙ is q ∙ ap (cond (is_at (int_cmp key) q) (Some value)) (sym (get-found old q)) ∙ either_way key q (Some value) _
    ∙ sym (get-insert int_cmp_total (from_entries old) key value q))

pub from_entries-remove : {X : Type 0} (old new : List (ℤ × X)) (key : ℤ) → Updated old new key None → from_entries {R = int_cmp} new ≡ remove (from_entries {R = int_cmp} old) key
from_entries-remove old new key is = same_map int_cmp_total int_cmp-IsAntisymmetric _ _ (λ q.
    get-found new q ∙ is q ∙ ap (cond (is_at (int_cmp key) q) None) (sym (get-found old q)) ∙ either_way key q None _
    ∙ sym (get-remove int_cmp_total (from_entries old) key q))

-- two keys that tie
pub tied : (o : Ordering) → is_eq o ≡ true → o ≡ Equal
tied Less e = cc
tied Equal e = refl
tied Greater e = cc

-- ---- the entries of a sorted tree

below_all-true : {X : Type 0} (key : ℤ) (entries : List (ℤ × X)) → AllByRecursion (λ other. int_cmp key other ≡ Less) (keys_of entries) → below_all int_cmp key entries ≡ true
below_all-true key [] below = refl
below_all-true key (entry ∷ entries) below = ap (λ o. is_lt o && below_all int_cmp key entries) below.0 ∙ below_all-true key entries below.1

is_sorted-true : {X : Type 0} (entries : List (ℤ × X)) → IsStrictlySortedBy int_cmp (keys_of entries) → is_sorted int_cmp entries ≡ true
unfolding IsStrictlySortedBy
is_sorted-true [] sorted = refl
is_sorted-true (entry ∷ entries) sorted = ap (λ b. b && is_sorted int_cmp entries) (below_all-true entry.0 entries sorted.0) ∙ is_sorted-true entries sorted.1

-- the map of a sorted list has that list
pub entries-from_entries : {X : Type 0} (es : List (ℤ × X)) → IsStrictlySortedBy int_cmp (keys_of es) → entries (from_entries {R = int_cmp} es) ≡ es
entries-from_entries es sorted =
    let rises : T (is_sorted int_cmp es) = subst T (sym (is_sorted-true es sorted)) tt in
    ap entries (same_map int_cmp_total int_cmp-IsAntisymmetric (from_entries es) (from_sorted es) (λ q. get-from_entries int_cmp_total es q ∙ sym (get-from_sorted int_cmp es q rises)))
    ∙ entries-from_sorted int_cmp es rises
