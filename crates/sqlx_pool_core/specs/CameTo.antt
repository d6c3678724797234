-- What a test of an idle connection and a try to open one came to.
use Rattle.std.specs.Prelude.{◌≡◌, ℕ, false, ◌⊎◌, ⊤}
use Rattle.sqlx_text.specs.declared.error.Error.{Error}
use Rattle.sqlx_text.specs.declared.error.Error.TheVariants.{OutOfMemory}
use Rattle.sqlx_pool_lists.specs.declared.steps.Verdict.{Verdict}
use Rattle.sqlx_pool_lists.specs.declared.steps.Verdict.TheVariants as verdict
use Rattle.sqlx_pool_core.specs.declared.idle_check.Opening.{Opening}
use Rattle.sqlx_pool_core.specs.declared.idle_check.Opening.TheVariants as opening
use Rattle.sqlx_pool_core.specs.Outside.{HasRisen, is_transient}

-- why a connect is refused for good
abbrev pub IsForGood : ℕ → ℕ → Error → Type 0
IsForGood faults now error = ((error ≡ OutOfMemory) ⊎ HasRisen faults now) × (is_transient error ≡ false)

-- P of the connection, if it passed its test
abbrev pub IfAccepted : {C : Type 0} → Verdict C → (C → Type 0) → Type 0
IfAccepted (verdict.Accepted lent) P = P lent.raw
IfAccepted (verdict.Refused c) P = ⊤

-- P of the connection, if one was opened
abbrev pub IfOpened : {C : Type 0} → Opening C → (C → Type 0) → Type 0
IfOpened (opening.Opened raw) P = P raw
IfOpened other P = ⊤

-- P of the error, if the try was refused for good
abbrev pub IfFailed : {C : Type 0} → Opening C → (Error → Type 0) → Type 0
IfFailed (opening.Failed error) P = P error
IfFailed other P = ⊤
