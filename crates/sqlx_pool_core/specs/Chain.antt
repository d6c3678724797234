-- The chains of calls that a test and a try are, with the states of the outside between them.
use Rattle.std.specs.Prelude.{◌≡◌, ℕ, ◌-◌, Bool, true, false, ◌==◌, ⊤, Result, Ok, Err, is_ok, if◌then◌else◌}
use Rattle.sqlx_text.specs.declared.error.Error.{Error}
use Rattle.sqlx_pool_core.specs.declared.outside.PoolConnectionMetadata.{PoolConnectionMetadata}
use Rattle.sqlx_pool_lists.specs.declared.options.PoolOptions.{PoolOptions}
use Rattle.sqlx_pool_lists.specs.declared.steps.Lent.{Lent}
use Rattle.sqlx_pool_lists.specs.declared.steps.Idle.{Idle}
use Rattle.sqlx_pool_lists.specs.declared.steps.Verdict.{Verdict}
use Rattle.sqlx_pool_lists.specs.declared.steps.Verdict.TheVariants.{Accepted, Refused}
use Rattle.sqlx_pool_core.specs.Outside.{is_transient, says_ok}
use Rattle.sqlx_pool_core.specs.declared.idle_check.Check.{Check}
use Rattle.sqlx_pool_core.specs.declared.idle_check.Check.TheVariants.{Pass, Close, CloseHard}
use Rattle.sqlx_pool_core.specs.declared.idle_check.Opening.{Opening}
use Rattle.sqlx_pool_core.specs.declared.idle_check.Opening.TheVariants.{Opened, Rejected, Transient, Failed}
use Rattle.sqlx_pool_core.specs.Calls.{Call, connect, ping, after_connect, before_acquire, close, close_hard}

-- what a hook's answer, and the levels that are open after it, make of an idle connection
abbrev pub check_by : Result Bool Error → ℕ → Check
check_by (Ok true) depth = if depth == 0 then Pass else CloseHard
check_by (Ok false) depth = Close
check_by (Err error) depth = CloseHard

-- what a hook is told of an idle connection at m
abbrev pub meta_of : {C : Type 0} → ℕ → Idle C → PoolConnectionMetadata
meta_of m i = record { age = m - i.lent.created.0; idle_for = m - i.since.0 }

-- what a hook is told of a new connection
abbrev pub new_meta : PoolConnectionMetadata
new_meta = record { age = 0; idle_for = 0 }

-- what a refused connect comes to
abbrev pub refused : {C : Type 0} → Error → Opening C
refused error = if is_transient error then Transient else Failed error

module _ {C O X : Type 0} (does : Call C O → X → X → Type 0) (depth : X → C → ℕ) where
  -- ---- a test

  -- a ping, where one is asked for
  abbrev pub Pings : Bool → C → C → Bool → X → X → Type 0
  Pings true raw now good old new = (answer : Result (⊤) Error) × does (ping raw answer now) old new × (good ≡ is_ok answer)
  Pings false raw now good old new = (now ≡ raw) × (good ≡ true) × (new ≡ old)

  -- the hook before an acquire, where it is set
  abbrev pub Looks : Bool → PoolConnectionMetadata → C → C → Check → X → X → Type 0
  Looks true meta raw now check old new = (answer : Result Bool Error) × does (before_acquire raw meta answer now) old new × (check ≡ check_by answer (depth new now))
  Looks false meta raw now check old new = (now ≡ raw) × (check ≡ Pass) × (new ≡ old)

  -- the hook is asked where the ping was good
  abbrev pub LooksIf : Bool → Bool → PoolConnectionMetadata → C → C → Check → X → X → Type 0
  LooksIf true hook meta raw now check old new = Looks hook meta raw now check old new
  LooksIf false hook meta raw now check old new = (now ≡ raw) × (check ≡ CloseHard) × (new ≡ old)

  -- A ping and then the hook: what they make of a connection.
  pub record Checks (options : PoolOptions) (meta : PoolConnectionMetadata) (raw now : C) (check : Check) (old new : X) : Type 0 where
    pub pinged : C
    pub good : Bool
    pub between : X
    pub pings : Pings options.test_before_acquire raw pinged good old between
    pub looks : LooksIf good options.before_acquire meta pinged now check between new

  -- a connection that passed is accepted, another is closed
  abbrev pub Sorts : Check → Lent C → Verdict C → X → X → Type 0
  Sorts Pass lent verdict old new = (verdict ≡ Accepted lent) × (new ≡ old)
  Sorts Close lent verdict old new = (verdict ≡ Refused lent.id) × does (close lent.raw) old new
  Sorts CloseHard lent verdict old new = (verdict ≡ Refused lent.id) × does (close_hard lent.raw) old new

  -- A test of an idle connection at m.
  pub record Tests (options : PoolOptions) (m : ℕ) (i : Idle C) (verdict : Verdict C) (old new : X) : Type 0 where
    pub raw : C
    pub check : Check
    pub between : X
    pub checks : Checks options (meta_of m i) i.lent.raw raw check old between
    pub sorts : Sorts check (record i.lent { raw = raw }) verdict between new

  -- ---- a try

  -- the hook after a connect, where it is set
  abbrev pub SetsUp : Bool → C → C → Bool → X → X → Type 0
  SetsUp true raw now good old new = (answer : Result (⊤) Error) × does (after_connect raw new_meta answer now) old new × (good ≡ says_ok answer (depth new now))
  SetsUp false raw now good old new = (now ≡ raw) × (good ≡ true) × (new ≡ old)

  -- a new connection that is set up is kept, another is closed
  abbrev pub KeepsIf : Bool → C → Opening C → X → X → Type 0
  KeepsIf true raw opening old new = (opening ≡ Opened raw) × (new ≡ old)
  KeepsIf false raw opening old new = (opening ≡ Rejected) × does (close_hard raw) old new

  -- A new connection is set up.
  pub record Readies (hook : Bool) (raw : C) (opening : Opening C) (old new : X) : Type 0 where
    pub now : C
    pub good : Bool
    pub between : X
    pub sets_up : SetsUp hook raw now good old between
    pub keeps : KeepsIf good now opening between new

  -- what follows a connect
  abbrev pub Follows : Bool → Result C Error → Opening C → X → X → Type 0
  Follows hook (Ok raw) opening old new = Readies hook raw opening old new
  Follows hook (Err error) opening old new = (opening ≡ refused error) × (new ≡ old)

  -- A try to open a connection.
  pub record Tries (hook : Bool) (options : O) (opening : Opening C) (old new : X) : Type 0 where
    pub answer : Result C Error
    pub between : X
    pub connects : does (connect options answer) old between
    pub follows : Follows hook answer opening between new
