-- What is done to a list of entries is done to the same list by the texts of its keys.
use Rattle.std.proofs.Common.{◌≡◌, ℕ, Bool, true, false, cond, List, [], ◌∷◌, refl, ap, Some}
use Rattle.std.specs.List.{AllZip}
use Rattle.std.specs.Map.{lookup, values_of}
use Rattle.std.specs.Str.{bytes_eq}
use Rattle.indexmap.specs.IndexMap.{insert_entry}
use Rattle.sqlx_any_values.specs.Names.{by_texts}

module _ {K V : Type 0} (f : K → List ℕ) where
  pub lookup-by_texts : (test : List ℕ → Bool) (es : List (K × V)) → lookup test (by_texts f es) ≡ lookup (λ k. test (f k)) es
  lookup-by_texts test [] = refl
  lookup-by_texts test (e ∷ es) = ap (cond (test (f e.0)) (Some e.1)) (lookup-by_texts test es)

  pub insert_entry-by_texts : (es : List (K × V)) (k : K) (v : V) → by_texts f (insert_entry (λ a b. bytes_eq (f a) (f b)) es k v) ≡ insert_entry bytes_eq (by_texts f es) (f k) v
  insert_entry-by_texts [] k v = refl
  insert_entry-by_texts (e ∷ es) k v =
      elim (bytes_eq (f k) (f e.0)) as (λ b. by_texts f (cond b ((e.0, v) ∷ es) (e ∷ insert_entry (λ a b. bytes_eq (f a) (f b)) es k v)) ≡ cond b ((f e.0, v) ∷ by_texts f es) ((f e.0, e.1) ∷ insert_entry bytes_eq (by_texts f es) (f k) v)) [
        | true ↦ refl
        | false ↦ ap (λ rest. (f e.0, e.1) ∷ rest) (insert_entry-by_texts es k v)
      ]

  pub values_of-by_texts : (es : List (K × V)) → values_of (by_texts f es) ≡ values_of es
  values_of-by_texts [] = refl
  values_of-by_texts (e ∷ es) = ap (λ rest. e.1 ∷ rest) (values_of-by_texts es)

  pub by_texts-clone : (es fs : List (K × V)) → AllZip (λ p q. (f q.0 ≡ f p.0) × (q.1 ≡ p.1)) es fs → by_texts f fs ≡ by_texts f es
  by_texts-clone [] [] same = refl
  by_texts-clone [] (y ∷ ys) same = elim same [ ]
  by_texts-clone (x ∷ xs) [] same = elim same [ ]
  by_texts-clone (x ∷ xs) (y ∷ ys) same =
      rw (same.0.0, same.0.1) (ap (λ rest. (f x.0, x.1) ∷ rest) (by_texts-clone xs ys same.1))
