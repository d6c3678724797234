-- What `insert` does in the words of `lru`, and in those of the list by texts.
use Rattle.std.proofs.Common.{◌≡◌, ℕ, zero, suc, ◌-◌, ◌<◌, ◌≤◌, Bool, true, false, cond, List, [], ◌∷◌, length, take, Option, Some, None, IsSome, refl, sym, ap, ◌∙◌, arith}
use Rattle.std.specs.Option.{option_map, option_map_or}
use Rattle.std.specs.Map.{lookup, lookup_entry, remove_entry, set_value}
use Rattle.std.specs.Str.{bytes_eq}
use Rattle.std.proofs.lemmas.List.{take_all, length-take}
use Rattle.std.proofs.lemmas.Slice.Eq.{bytes_eq-Decides}
use Rattle.lru.specs.LruCache.{LruCache, lru_cache, promoted, put_entries, displaced}
use Rattle.lru.proofs.CallerLemmas.{Contains-lookup_entry}
use Rattle.lru.proofs.Pairs.{lookup-lookup_entry}
use Rattle.sqlx_text.specs.Cache.{by_texts, inserted, handed_back}
use Rattle.sqlx_text.proofs.ByTexts.{lookup-by_texts, take-by_texts, length-by_texts, value_at-by_texts, length-remove_entry}

module _ {V : Type 0} (text : List ℕ) where
  replaced_at : (es : List (List ℕ × V)) (cap : ℕ) (w : V) (o : Option (List ℕ × V)) → lookup_entry (bytes_eq text) es ≡ o → IsSome o → length es ≤ cap → set_value (bytes_eq text) (option_map_or (λ e. e ∷ remove_entry (bytes_eq text) es) o es) w ≡ take cap ((text, w) ∷ remove_entry (bytes_eq text) es)
  replaced_at es cap w None at some within = cc
  replaced_at es cap w (Some e) at some within =
      let same : bytes_eq text e.0 ≡ true = (Contains-lookup_entry (bytes_eq text) es e at).1 in
      let found : IsSome (lookup_entry (bytes_eq text) es) = rw at some in
      let fits : length ((text, w) ∷ remove_entry (bytes_eq text) es) ≤ cap = omega (arith, within, length-remove_entry (bytes_eq text) es found) in
      rw (same, take_all cap ((text, w) ∷ remove_entry (bytes_eq text) es) fits) (ap (λ k. (k, w) ∷ remove_entry (bytes_eq text) es) (sym ((bytes_eq-Decides text e.0).0 same)))

  some_entry : (es : List (List ℕ × V)) (o : Option (List ℕ × V)) → IsSome (option_map (λ (e : List ℕ × V). e.1) o) → IsSome o
  some_entry es None some = cc
  some_entry es (Some e) some = refl

  -- a text that is there goes first with its new value
  pub inserted-there : (cache : LruCache (List ℕ) V) (w : V) → IsSome (lookup (bytes_eq text) cache.entries) → length cache.entries ≤ cache.cap → set_value (bytes_eq text) (promoted (bytes_eq text) cache.entries) w ≡ inserted cache text w
  inserted-there cache w some within =
      replaced_at cache.entries cache.cap w (lookup_entry (bytes_eq text) cache.entries) refl (some_entry cache.entries _ (rw (lookup-lookup_entry (bytes_eq text) cache.entries) some)) within

none_entry : {A B : Type 0} (f : A → B) (o : Option A) → option_map f o ≡ None → o ≡ None
none_entry f None none = refl
none_entry f (Some a) none = cc

module _ {K V : Type 0} (test : K → Bool) where
  pub lookup_entry-absent : (es : List (K × V)) → lookup test es ≡ None → lookup_entry test es ≡ None
  lookup_entry-absent es none = none_entry (λ (e : K × V). e.1) (lookup_entry test es) (lookup-lookup_entry test es ∙ none)

  pub remove_entry-absent : (es : List (K × V)) → lookup test es ≡ None → remove_entry test es ≡ es
  remove_entry-absent [] none = refl
  remove_entry-absent (e ∷ es) none =
      (elim (test e.0) as (λ b. cond b (Some e.1) (lookup test es) ≡ None → cond b es (e ∷ remove_entry test es) ≡ e ∷ es) [
        | true ↦ λ some. cc
        | false ↦ λ rest. ap (λ xs. e ∷ xs) (remove_entry-absent es rest)
      ]) none

take_first : {X : Type 0} (n : ℕ) (x : X) (xs : List X) → 0 < n → x ∷ take (n - 1) xs ≡ take n (x ∷ xs)
take_first zero x xs some = absurd (omega arith)
take_first (suc n) x xs some = ap (λ k. x ∷ take k xs) (omega arith)

module _ {K V : Type 0} (f : K → List ℕ) (key : K) (es : List (K × V)) (cap : ℕ) where
  new_at_key : (v : V) → 0 < cap → lookup (bytes_eq (f key)) (by_texts f es) ≡ None → by_texts f (put_entries (λ a b. bytes_eq (f a) (f b)) (lru_cache es cap) key v) ≡ inserted (lru_cache (by_texts f es) cap) (f key) v
  new_at_key v some none =
      let absent : lookup (λ k. bytes_eq (f key) (f k)) es ≡ None = sym (lookup-by_texts f (bytes_eq (f key)) es) ∙ none in
      rw (lookup_entry-absent (λ k. bytes_eq (f key) (f k)) es absent, remove_entry-absent (bytes_eq (f key)) (by_texts f es) none, take-by_texts f (cap - 1) es) (take_first cap (f key, v) (by_texts f es) some)

  gone_at_key : (v : V) → lookup (bytes_eq (f key)) (by_texts f es) ≡ None → option_map (λ (e : K × V). e.1) (displaced (λ a b. bytes_eq (f a) (f b)) (lru_cache es cap) key v) ≡ handed_back (lru_cache (by_texts f es) cap) (f key)
  gone_at_key v none =
      let absent : lookup (λ k. bytes_eq (f key) (f k)) es ≡ None = sym (lookup-by_texts f (bytes_eq (f key)) es) ∙ none in
      rw (absent, none) (value_at-by_texts f es (cap - 1))

  module _ (text : List ℕ) (capacity : ℕ) (same : f key ≡ text) (capped : cap ≡ capacity) (none : lookup (bytes_eq text) (by_texts f es) ≡ None) where
    -- a new text pushes out what has no room behind it
    pub inserted-new : (v : V) → 0 < capacity → by_texts f (put_entries (λ a b. bytes_eq (f a) (f b)) (lru_cache es cap) key v) ≡ inserted (lru_cache (by_texts f es) capacity) text v
    inserted-new v some = rw (← same, ← capped) (new_at_key v (rw capped some) (rw same none))

    -- what is pushed out comes back
    pub handed_back-new : (v : V) → option_map (λ (e : K × V). e.1) (displaced (λ a b. bytes_eq (f a) (f b)) (lru_cache es cap) key v) ≡ handed_back (lru_cache (by_texts f es) capacity) text
    handed_back-new v = rw (← same, ← capped) (gone_at_key v (rw same none))

    -- there are no more than there may be
    pub length-inserted-new : (v : V) → 0 < capacity → length (put_entries (λ a b. bytes_eq (f a) (f b)) (lru_cache es cap) key v) ≤ capacity
    length-inserted-new v some =
        let placed = put_entries (λ a b. bytes_eq (f a) (f b)) (lru_cache es cap) key v in
        omega (arith, length-by_texts f placed, ap length (inserted-new v some), length-take capacity ((text, v) ∷ remove_entry (bytes_eq text) (by_texts f es)))
