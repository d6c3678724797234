-- What is done to a list of entries is done to the same list by the texts of its keys.
use Rattle.std.proofs.Common.{◌≡◌, ℕ, ◌+◌, ◌-◌, slice_get, Bool, true, false, cond, List, [], ◌∷◌, length, take, Option, Some, None, IsSome, refl, sym, ap, ◌∙◌, arith}
use Rattle.std.specs.Option.{option_map, option_map_or}
use Rattle.std.specs.List.{AllByRecursion, IsDistinct}
use Rattle.std.specs.Map.{keys_of, lookup, lookup_entry, remove_entry, set_value}
use Rattle.std.specs.Str.{bytes_eq}
use Rattle.lru.specs.LruCache.{promoted}
use Rattle.sqlx_text.specs.Cache.{by_texts, without_last}
use Rattle.std.proofs.lemmas.List.{length-map, take-map}
use Rattle.std.proofs.lemmas.Option.{slice_get-map}

module _ {K V : Type 0} (f : K → List ℕ) (test : List ℕ → Bool) where
  pub lookup-by_texts : (es : List (K × V)) → lookup test (by_texts f es) ≡ lookup (λ k. test (f k)) es
  lookup-by_texts [] = refl
  lookup-by_texts (e ∷ es) = ap (cond (test (f e.0)) (Some e.1)) (lookup-by_texts es)

  pub lookup_entry-by_texts : (es : List (K × V)) → lookup_entry test (by_texts f es) ≡ option_map (λ e. (f e.0, e.1)) (lookup_entry (λ k. test (f k)) es)
  lookup_entry-by_texts [] = refl
  lookup_entry-by_texts (e ∷ es) =
      elim (test (f e.0)) as (λ b. cond b (Some (f e.0, e.1)) (lookup_entry test (by_texts f es)) ≡ option_map (λ e. (f e.0, e.1)) (cond b (Some e) (lookup_entry (λ k. test (f k)) es))) [
        | true ↦ refl
        | false ↦ lookup_entry-by_texts es
      ]

  pub remove_entry-by_texts : (es : List (K × V)) → remove_entry test (by_texts f es) ≡ by_texts f (remove_entry (λ k. test (f k)) es)
  remove_entry-by_texts [] = refl
  remove_entry-by_texts (e ∷ es) =
      elim (test (f e.0)) as (λ b. cond b (by_texts f es) ((f e.0, e.1) ∷ remove_entry test (by_texts f es)) ≡ by_texts f (cond b es (e ∷ remove_entry (λ k. test (f k)) es))) [
        | true ↦ refl
        | false ↦ ap (λ rest. (f e.0, e.1) ∷ rest) (remove_entry-by_texts es)
      ]

  pub set_value-by_texts : (es : List (K × V)) (w : V) → set_value test (by_texts f es) w ≡ by_texts f (set_value (λ k. test (f k)) es w)
  set_value-by_texts [] w = refl
  set_value-by_texts (e ∷ es) w =
      elim (test (f e.0)) as (λ b. cond b ((f e.0, w) ∷ by_texts f es) ((f e.0, e.1) ∷ set_value test (by_texts f es) w) ≡ by_texts f (cond b ((e.0, w) ∷ es) (e ∷ set_value (λ k. test (f k)) es w))) [
        | true ↦ refl
        | false ↦ ap (λ rest. (f e.0, e.1) ∷ rest) (set_value-by_texts es w)
      ]

  first-by_texts : (es rest : List (K × V)) (o : Option (K × V)) → option_map_or (λ e. e ∷ by_texts f rest) (option_map (λ e. (f e.0, e.1)) o) (by_texts f es) ≡ by_texts f (option_map_or (λ e. e ∷ rest) o es)
  first-by_texts es rest None = refl
  first-by_texts es rest (Some e) = refl

  pub promoted-by_texts : (es : List (K × V)) → promoted test (by_texts f es) ≡ by_texts f (promoted (λ k. test (f k)) es)
  promoted-by_texts es =
      rw (lookup_entry-by_texts es, remove_entry-by_texts es) (first-by_texts es _ (lookup_entry (λ k. test (f k)) es))

  pub written-by_texts : (es : List (K × V)) (w : V) → by_texts f (set_value (λ k. test (f k)) (promoted (λ k. test (f k)) es) w) ≡ set_value test (promoted test (by_texts f es)) w
  written-by_texts es w = sym (set_value-by_texts _ w) ∙ ap (λ xs. set_value test xs w) (sym (promoted-by_texts es))

module _ {K V : Type 0} (test : K → Bool) where
  pub length-remove_entry : (es : List (K × V)) → IsSome (lookup_entry test es) → length (remove_entry test es) + 1 ≡ length es
  length-remove_entry [] some = cc
  length-remove_entry (e ∷ es) some =
      (elim (test e.0) as (λ b. IsSome (cond b (Some e) (lookup_entry test es)) → length (cond b es (e ∷ remove_entry test es)) + 1 ≡ length (e ∷ es)) [
        | true ↦ λ _. omega arith
        | false ↦ λ found. omega (arith, length-remove_entry es found)
      ]) some

  length-first : (es : List (K × V)) (o : Option (K × V)) → (IsSome o → length (remove_entry test es) + 1 ≡ length es) → length (option_map_or (λ e. e ∷ remove_entry test es) o es) ≡ length es
  length-first es None long = refl
  length-first es (Some e) long = omega (arith, long refl)

  pub length-promoted : (es : List (K × V)) → length (promoted test es) ≡ length es
  length-promoted es = length-first es (lookup_entry test es) (length-remove_entry es)

module _ {K V : Type 0} (f : K → List ℕ) where
  pub take-by_texts : (n : ℕ) (es : List (K × V)) → by_texts f (take n es) ≡ take n (by_texts f es)
  take-by_texts n es = sym (take-map (λ (e : K × V). (f e.0, e.1)) n es)

  pub length-by_texts : (es : List (K × V)) → length (by_texts f es) ≡ length es
  length-by_texts es = length-map es (λ (e : K × V). (f e.0, e.1))

  pub without_last-by_texts : (es : List (K × V)) → by_texts f (take (length es - 1) es) ≡ without_last (by_texts f es)
  without_last-by_texts es = rw (length-by_texts es) (take-by_texts (length es - 1) es)

  value_of : (o : Option (K × V)) → option_map (λ (e : List ℕ × V). e.1) (option_map (λ (e : K × V). (f e.0, e.1)) o) ≡ option_map (λ (e : K × V). e.1) o
  value_of None = refl
  value_of (Some e) = refl

  pub value_at-by_texts : (es : List (K × V)) (n : ℕ) → option_map (λ (e : K × V). e.1) (slice_get es n) ≡ option_map (λ (e : List ℕ × V). e.1) (slice_get (by_texts f es) n)
  value_at-by_texts es n = sym (ap (option_map (λ (e : List ℕ × V). e.1)) (slice_get-map (λ (e : K × V). (f e.0, e.1)) es n) ∙ value_of (slice_get es n))

  apart : (text : List ℕ) (es : List (K × V)) → AllByRecursion (λ k. bytes_eq text (f k) ≡ false) (keys_of es) → AllByRecursion (λ k. bytes_eq text k ≡ false) (keys_of (by_texts f es))
  apart text [] all = all
  apart text (e ∷ es) all = (all.0, apart text es all.1)

  pub IsDistinct-by_texts : (es : List (K × V)) → IsDistinct (λ a b. bytes_eq (f a) (f b)) (keys_of es) → IsDistinct bytes_eq (keys_of (by_texts f es))
  unfolding IsDistinct
  IsDistinct-by_texts [] distinct = distinct
  IsDistinct-by_texts (e ∷ es) distinct = (apart (f e.0) es distinct.0, IsDistinct-by_texts es distinct.1)
