-- A link that is taken out of a list.
use Rattle.std.proofs.Common.{◌≡◌, ◌+◌, ◌≤◌, Bool, true, false, cond, not, List, [], ◌∷◌, filter, find, count_by, Some, None, refl, sym, ap, ◌∙◌, arith}
use Rattle.sqlx_pool_lists.specs.MaintenanceSteps.{without_first}
use Rattle.sqlx_pool_marks.proofs.ListFacts.{count_by-cons, filter_none}

module _ {X : Type 0} (p : X → Bool) where
  -- without the only one that passes
  pub first-only : (xs : List X) → count_by p xs ≤ 1 → without_first p xs ≡ filter (λ y. not (p y)) xs
  first-only [] one = refl
  first-only (w ∷ xs) one = by (λ h. first-only xs h) (p w) (let same = count_by-cons p w xs in omega (arith, one, same))
    where
      by : (count_by p xs ≤ 1 → without_first p xs ≡ filter (λ y. not (p y)) xs) → (b : Bool) → cond b 1 0 + count_by p xs ≤ 1
          → cond b xs (w ∷ without_first p xs) ≡ cond (not b) (w ∷ filter (λ y. not (p y)) xs) (filter (λ y. not (p y)) xs)
      by rest true h = sym (filter_none p xs (omega (arith, h)))
      by rest false h = ap (λ (l : List X). w ∷ l) (rest (omega (arith, h)))

  -- none passes where none is found
  pub none-counted : (xs : List X) → find p xs ≡ None → count_by p xs ≡ 0
  none-counted [] e = refl
  none-counted (w ∷ xs) e = count_by-cons p w xs ∙ by (λ h. none-counted xs h) (p w) e
    where
      by : (find p xs ≡ None → count_by p xs ≡ 0) → (b : Bool) → cond b (Some w) (find p xs) ≡ None → cond b 1 0 + count_by p xs ≡ 0
      by rest true h = absurd (cc)
      by rest false h = let none = rest h in omega (arith, none)

  -- and none leaves there
  pub without-unfound : (xs : List X) → find p xs ≡ None → without_first p xs ≡ xs
  without-unfound [] e = refl
  without-unfound (w ∷ xs) e = by (λ h. without-unfound xs h) (p w) e
    where
      by : (find p xs ≡ None → without_first p xs ≡ xs) → (b : Bool) → cond b (Some w) (find p xs) ≡ None → cond b xs (w ∷ without_first p xs) ≡ w ∷ xs
      by rest true h = absurd (cc)
      by rest false h = ap (λ (l : List X). w ∷ l) (rest h)
