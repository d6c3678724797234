-- Idle connections that are closed one after another: with those that are left all are closed.
use Rattle.std.proofs.Common.{◌≡◌, List, [], ◌∷◌, length, refl, subst, sym}
use Rattle.sqlx_pool_lists.specs.declared.steps.Idle.{Idle}
use Rattle.sqlx_pool_core.specs.Calls.{Call}
use Rattle.sqlx_pool_core.specs.declared.idle_check.Check.{Check}
use Rattle.sqlx_pool_parts.specs.Checks.{Closes, ClosesAll}

module _ {C O X : Type 0} (does : Call C O → X → X → Type 0) (how : Check) where
  -- the first of those that were left is closed
  pub closes_first : (idle : Idle C) (all left rest : List (Idle C)) (begun old between : X)
      → ((last : X) → ClosesAll does how left old last → ClosesAll does how all begun last) → left ≡ idle ∷ rest → Closes does how idle.lent.raw old between
      → (last : X) → ClosesAll does how rest between last → ClosesAll does how all begun last
  unfolding ClosesAll
  closes_first idle all left rest begun old between so_far is closes last others = so_far last (subst (λ l. ClosesAll does how l old last) (sym is) (between, closes, others))

  -- none is left
  pub closes_none : (all left : List (Idle C)) (begun old : X) → ((last : X) → ClosesAll does how left old last → ClosesAll does how all begun last) → length left ≡ 0 → ClosesAll does how all begun old
  unfolding ClosesAll
  closes_none all [] begun old so_far is = so_far old refl
  closes_none all (idle ∷ left) begun old so_far is = absurd cc
