-- What one pool's change leaves of the others.
use Rattle.std.proofs.Common.{◌≡◌, ℕ, ◌<◌, inl, inr, List, length, get_or, sym, ap, ◌∙◌, subst}
use Rattle.std.proofs.lemmas.Bool.Decides.{eqb_tells}
use Rattle.std.proofs.lemmas.List.{get_or-set_same, get_or-set_other, get_or_default}
use Rattle.std.specs.Prelude.{slice_set}
use Rattle.sqlx_family.specs.declared.family.FamilyPool.{FamilyPool}
use Rattle.sqlx_family.specs.NoPool.{no_pool}

module _ {C X : Type 0} (look : FamilyPool C → X) (xs : List (FamilyPool C)) (i : ℕ) (p old : FamilyPool C) (lt : i < length xs) (is : old ≡ get_or xs i old) where
  pub entry-is : get_or xs i no_pool ≡ old
  entry-is = get_or_default xs i no_pool old lt ∙ sym is

  -- what doesn't change in one pool doesn't change in any
  pub look-set : (j : ℕ) → look p ≡ look old → look (get_or (slice_set xs i p) j no_pool) ≡ look (get_or xs j no_pool)
  look-set j e = elim (eqb_tells j i) [
    | inl same ↦ subst (λ (n : ℕ). look (get_or (slice_set xs i p) n no_pool) ≡ look (get_or xs n no_pool)) (sym same.1) (ap look (get_or-set_same xs i p no_pool lt) ∙ e ∙ sym (ap look entry-is))
    | inr other ↦ ap look (get_or-set_other xs i j p no_pool other.1)
  ]
