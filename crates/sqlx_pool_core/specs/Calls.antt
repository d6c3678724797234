-- The calls of an outside, and what a pool takes for granted of each.
use Rattle.std.specs.Prelude.{◌≡◌, ◌≤◌, ◌⊎◌, ℕ, Bool, true, false, ◌==◌, ⊤, Result, Err, IfOk, IfErr, is_err}
use Rattle.sqlx_text.specs.declared.error.Error.{Error}
use Rattle.sqlx_text.specs.declared.error.Error.TheVariants.{OutOfMemory}
use Rattle.sqlx_pool_core.specs.Outside.{HasRisen, declines}
use Rattle.sqlx_pool_core.specs.declared.outside.PoolConnectionMetadata.{PoolConnectionMetadata}

-- A call: what it was handed, what it answered, and what it made of the connection.
pub data Call (C O : Type 0) : Type 0 where
  connect : O → Result C Error → Call C O
  ping : C → Result (⊤) Error → C → Call C O
  after_connect : C → PoolConnectionMetadata → Result (⊤) Error → C → Call C O
  before_acquire : C → PoolConnectionMetadata → Result Bool Error → C → Call C O
  after_release : C → PoolConnectionMetadata → Result Bool Error → C → Call C O
  close : C → Call C O
  close_hard : C → Call C O

-- of a new connection no level is open, and a ping leaves the levels
abbrev pub Levels : {C O X : Type 0} → (X → C → ℕ) → Call C O → X → X → Type 0
Levels depth (connect options answer) old new = IfOk answer (λ conn. depth new conn ≡ 0)
Levels depth (ping conn answer now) old new = depth new now ≡ depth old conn
Levels depth other old new = ⊤

-- a refusal is counted where a hook declined, and where it left a level open on a connection that had none
abbrev pub IsCounted : Bool → ℕ → ℕ → ℕ → ℕ → Type 0
IsCounted declined before after refusals now = (declined ≡ true → HasRisen refusals now) × (before ≡ 0 → (after == 0) ≡ false → HasRisen refusals now)

-- why a call refuses: a fault was counted, or memory was wanting at a connect; each hook's refusal was counted
abbrev pub Causes : {C O X : Type 0} → (X → ℕ) → (X → ℕ) → (X → C → ℕ) → Call C O → X → X → Type 0
Causes faults refusals depth (connect options answer) old new = IfErr answer (λ e. (e ≡ OutOfMemory) ⊎ HasRisen (faults old) (faults new))
Causes faults refusals depth (ping conn answer now) old new = IfErr answer (λ _. HasRisen (faults old) (faults new))
Causes faults refusals depth (after_connect conn meta answer now) old new = IsCounted (is_err answer) (depth old conn) (depth new now) (refusals old) (refusals new)
Causes faults refusals depth (before_acquire conn meta answer now) old new = IsCounted (declines answer) (depth old conn) (depth new now) (refusals old) (refusals new)
Causes faults refusals depth (after_release conn meta answer now) old new = IsCounted (declines answer) (depth old conn) (depth new now) (refusals old) (refusals new)
Causes faults refusals depth other old new = ⊤

-- a connect that wants memory leaves the outside short of it
abbrev pub Wants : {C O X : Type 0} → (X → Type 0) → Call C O → X → Type 0
Wants IsShort (connect options answer) new = answer ≡ Err OutOfMemory → IsShort new
Wants IsShort other new = ⊤

-- no ping and no close opens a level, on whatever connection
abbrev pub OpensNone : {C O X : Type 0} → (X → C → ℕ) → Call C O → X → X → Type 0
OpensNone {C} depth (ping conn answer now) old new = (any : C) → depth old any ≡ 0 → depth new any ≡ 0
OpensNone {C} depth (close conn) old new = (any : C) → depth old any ≡ 0 → depth new any ≡ 0
OpensNone {C} depth (close_hard conn) old new = (any : C) → depth old any ≡ 0 → depth new any ≡ 0
OpensNone depth hook old new = ⊤

-- What a pool takes for granted of a call.
pub record Facts {C O X : Type 0} (faults refusals : X → ℕ) (depth : X → C → ℕ) (IsShort : X → Type 0) (c : Call C O) (old new : X) : Type 0 where
  pub levels : Levels depth c old new
  pub none : OpensNone depth c old new
  pub causes : Causes faults refusals depth c old new
  pub want : Wants IsShort c new
  pub more_faults : faults old ≤ faults new
  pub more_refusals : refusals old ≤ refusals new
