-- What a call that reaps closed, and one that closes a pool.
use Rattle.std.specs.Prelude.{◌≡◌, ℕ, zero, suc, List, length, Some}
use Rattle.sqlx_text.specs.declared.Moment.{Moment}
use Rattle.sqlx_pool_lists.specs.declared.steps.Idle.{Idle}
use Rattle.sqlx_pool_core.specs.Calls.{Call}
use Rattle.sqlx_pool_core.specs.declared.idle_check.Check.TheVariants as check
use Rattle.sqlx_pool_parts.specs.Checks.{Closes, ClosesAll}
use Rattle.sqlx_pool.specs.Calls.{Step}
use Rattle.sqlx_pool.specs.Calls as call
use Rattle.sqlx_pool.specs.Seen.{SeesStep}

module _ {C O N X S : Type 0} (does : Call C O → X → X → Type 0) (stands : S → Type 0) (steps : Step C N → S → S → Type 0) (name : N) (now : Moment) where
  -- so many connections were reaped, one after another, each closed gently behind the step that took it
  unfoldable pub ReapsSome : ℕ → List S → List S → X → X → Type 0
  ReapsSome zero seen seen_now old new = (seen_now ≡ seen) × (new ≡ old)
  ReapsSome (suc more) seen seen_now old new = (idle : Idle C) × (taken : List S) × (between : X)
      × SeesStep stands seen taken (steps (call.Reap name now (Some idle))) × Closes does check.Close idle.lent.raw old between × ReapsSome more taken seen_now between new

module _ {C O X S : Type 0} (does : Call C O → X → X → Type 0) (stands : S → Type 0) where
  -- behind the step that took them so many idle connections were closed gently, one after another
  abbrev pub ClosesIdle : (List (Idle C) → S → S → Type 0) → ℕ → List S → List S → X → X → Type 0
  ClosesIdle step many seen seen_now old new = (idle : List (Idle C)) × (length idle ≡ many) × SeesStep stands seen seen_now (step idle) × ClosesAll does check.Close idle old new
