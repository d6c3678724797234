-- What is asked of the outside between two locked steps: the core's own tests and tries, behind each of which the connection's own depth is read.
use Rattle.std.specs.Prelude.{◌≡◌, ◌==◌, ℕ, ⊤, Bool, true, false, List, [], ◌∷◌, Result, Ok, if◌then◌else◌}
use Rattle.sqlx_text.specs.declared.error.Error.{Error}
use Rattle.sqlx_pool_lists.specs.declared.options.PoolOptions.{PoolOptions}
use Rattle.sqlx_pool_core.specs.declared.outside.PoolConnectionMetadata.{PoolConnectionMetadata}
use Rattle.sqlx_pool_lists.specs.declared.steps.Idle.{Idle}
use Rattle.sqlx_pool_lists.specs.declared.steps.Verdict.{Verdict}
use Rattle.sqlx_pool_lists.specs.declared.steps.Verdict.TheVariants as verdict
use Rattle.sqlx_pool_core.specs.declared.idle_check.Check.{Check}
use Rattle.sqlx_pool_core.specs.declared.idle_check.Check.TheVariants as check
use Rattle.sqlx_pool_core.specs.declared.idle_check.Opening.{Opening}
use Rattle.sqlx_pool_core.specs.declared.idle_check.Opening.TheVariants as opening
use Rattle.sqlx_pool_core.specs.Calls.{Call, after_connect, close, close_hard}
use Rattle.sqlx_pool_core.specs.Chain.{Tests, Tries, new_meta}
use Rattle.sqlx_pool_core.specs.Giving.{Returns}

-- P, if the connection passed
abbrev pub IfPassed : Check → Type 0 → Type 0
IfPassed check.Pass P = P
IfPassed other P = ⊤

-- a check of a connection that is flat or not: with a level open none passes
abbrev pub flat_check : Bool → Check → Check
flat_check flat check.Pass = if flat then check.Pass else check.CloseHard
flat_check flat check.Close = check.Close
flat_check flat check.CloseHard = check.CloseHard

module _ {C O X : Type 0} (does : Call C O → X → X → Type 0) where
  -- the hook after a connect, where it is set
  abbrev pub Hooks : Bool → C → C → Result (⊤) Error → X → X → Type 0
  Hooks true raw now answer old new = does (after_connect raw new_meta answer now) old new
  Hooks false raw now answer old new = (answer ≡ Ok tt) × (now ≡ raw) × (new ≡ old)

  -- a connection is closed as a check says, gently where it passed
  abbrev pub Closes : Check → C → X → X → Type 0
  Closes check.CloseHard raw old new = does (close_hard raw) old new
  Closes other raw old new = does (close raw) old new

  -- these idle connections are closed as a check says, the first of them first
  unfoldable pub ClosesAll : Check → List (Idle C) → X → X → Type 0
  ClosesAll how [] old new = new ≡ old
  ClosesAll how (idle ∷ rest) old new = (between : X) × Closes how idle.lent.raw old between × ClosesAll how rest between new

  -- the connection is kept where it is flat, and else closed hard
  abbrev pub IfFlat : {T : Type 0} → Bool → C → T → T → T → X → X → Type 0
  IfFlat true raw kept refused result old new = (result ≡ kept) × (new ≡ old)
  IfFlat false raw kept refused result old new = (result ≡ refused) × does (close_hard raw) old new

  module _ (depth : X → C → ℕ) (levels : C → ℕ) where
    -- what a try opened is kept where it is flat
    abbrev pub Opens : Opening C → Opening C → X → X → Type 0
    Opens (opening.Opened raw) result old new = IfFlat (levels raw == 0) raw (opening.Opened raw) opening.Rejected result old new
    Opens other result old new = (result ≡ other) × (new ≡ old)

    -- what a test accepted is accepted where it is flat
    abbrev pub Accepts : Verdict C → Verdict C → X → X → Type 0
    Accepts (verdict.Accepted lent) result old new = IfFlat (levels lent.raw == 0) lent.raw (verdict.Accepted lent) (verdict.Refused lent.id) result old new
    Accepts other result old new = (result ≡ other) × (new ≡ old)

    -- A try to open a connection.
    pub record TriesFlat (hook : Bool) (options : O) (result : Opening C) (old new : X) : Type 0 where
      pub tried : Opening C
      pub between : X
      pub tries : Tries does depth hook options tried old between
      pub opens : Opens tried result between new

    -- A test of an idle connection at m.
    pub record TestsFlat (options : PoolOptions) (m : ℕ) (i : Idle C) (result : Verdict C) (old new : X) : Type 0 where
      pub tested : Verdict C
      pub between : X
      pub tests : Tests does depth options m i tested old between
      pub accepts : Accepts tested result between new

    -- A test of a connection that comes back.
    pub record ReturnsFlat (hook : Bool) (meta : PoolConnectionMetadata) (raw now : C) (result : Check) (old new : X) : Type 0 where
      pub check : Check
      pub returns : Returns does depth hook meta raw now check old new
      pub is : result ≡ flat_check (levels now == 0) check
