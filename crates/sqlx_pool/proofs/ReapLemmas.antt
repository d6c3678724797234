-- What a call that reaps closed, put together from its steps.
use Rattle.std.proofs.Common.{arith, ℕ, ◌+◌, suc, List, Some, refl, subst}
use Rattle.sqlx_text.specs.declared.Moment.{Moment}
use Rattle.sqlx_pool_lists.specs.declared.steps.Idle.{Idle}
use Rattle.sqlx_pool_core.specs.Calls.{Call}
use Rattle.sqlx_pool_core.specs.declared.idle_check.Check.TheVariants as check
use Rattle.sqlx_pool_parts.specs.Checks.{Closes}
use Rattle.sqlx_pool.specs.Calls.{Step}
use Rattle.sqlx_pool.specs.Calls as call
use Rattle.sqlx_pool.specs.Reaped.{ReapsSome}
use Rattle.sqlx_pool.specs.Seen.{SeesStep}

module _ {C O N X S : Type 0} (does : Call C O → X → X → Type 0) (stands : S → Type 0) (steps : Step C N → S → S → Type 0) (name : N) (now : Moment) where
  -- so many were reaped so far, and those that are reaped from here on come behind them
  abbrev pub SoFar : ℕ → List S → List S → X → X → Type 0
  SoFar reaped first seen begun old = (more : ℕ) (last : List S) (new : X) → ReapsSome does stands steps name now more seen last old new → ReapsSome does stands steps name now (reaped + more) first last begun new

  -- none was at first
  pub reaps_none : (seen : List S) (old : X) → SoFar 0 seen seen old old
  reaps_none seen old more last new all = subst (λ n. ReapsSome does stands steps name now n seen last old new) (omega arith) all

  -- one more was
  pub reaps_one : (reaped : ℕ) (first seen taken : List S) (begun old between : X) (idle : Idle C) → SoFar reaped first seen begun old
      → SeesStep stands seen taken (steps (call.Reap name now (Some idle))) → Closes does check.Close idle.lent.raw old between → SoFar (reaped + 1) first taken begun between
  unfolding ReapsSome
  reaps_one reaped first seen taken begun old between idle so_far step closes more last new rest =
      subst (λ n. ReapsSome does stands steps name now n first last begun new) (omega arith) (so_far (suc more) last new (idle, taken, between, step, closes, rest))

  -- none more is
  pub reaps_no_more : (reaped : ℕ) (first seen : List S) (begun old : X) → SoFar reaped first seen begun old → ReapsSome does stands steps name now reaped first seen begun old
  unfolding ReapsSome
  reaps_no_more reaped first seen begun old so_far = subst (λ n. ReapsSome does stands steps name now n first seen begun old) (omega arith) (so_far 0 seen old (refl, refl))
