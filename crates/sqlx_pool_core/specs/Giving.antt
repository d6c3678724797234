-- A whole giving back: who owns it, the close and the age first, then the hook, the open levels and the ping.
use Rattle.std.specs.Prelude.{◌≡◌, ℕ, ◌-◌, ◌==◌, Bool, true, false, ⊤, Result, Option, Some, None, is_ok, if◌then◌else◌}
use Rattle.sqlx_text.specs.declared.error.Error.{Error}
use Rattle.sqlx_pool_core.specs.declared.outside.PoolConnectionMetadata.{PoolConnectionMetadata}
use Rattle.sqlx_pool_lists.specs.declared.steps.Lent.{Lent}
use Rattle.sqlx_pool_lists.specs.declared.steps.Given.{Given}
use Rattle.sqlx_pool_lists.specs.declared.steps.Given.TheVariants as given
use Rattle.sqlx_pool_lists.specs.declared.ticket.OwnedConn.{OwnedConn}
use Rattle.sqlx_pool_lists.specs.Core.{Core}
use Rattle.sqlx_pool_core.specs.Logs.{Logs}
use Rattle.sqlx_pool_lists.specs.Limits.{limits_of}
use Rattle.sqlx_pool_marks.specs.EventTable.{closes}
use Rattle.sqlx_pool_core.specs.ReturnSteps.{give_answer, give_marks, core_after_give}
use Rattle.sqlx_pool_core.specs.declared.idle_check.Check.{Check}
use Rattle.sqlx_pool_core.specs.declared.idle_check.Check.TheVariants.{Pass, Close, CloseHard}
use Rattle.sqlx_pool_lists.specs.declared.steps.Returned.{Returned}
use Rattle.sqlx_pool_lists.specs.declared.steps.Returned.TheVariants as returned
use Rattle.sqlx_pool_core.specs.Calls.{Call, ping, after_release, close, close_hard}
use Rattle.sqlx_pool_core.specs.Chain.{check_by}

-- what a hook is told of a connection that comes back at m
abbrev pub back_meta : ℕ → ℕ → PoolConnectionMetadata
back_meta m created = record { age = m - created; idle_for = 0 }

-- the connection passed
abbrev pub is_pass : Check → Bool
is_pass Pass = true
is_pass Close = false
is_pass CloseHard = false

-- what the pool answers to its caller
abbrev pub returned_by : {C : Type 0} → Given C → Returned C
returned_by given.Kept = returned.Kept
returned_by (given.Closed raw) = returned.Closed
returned_by (given.NotHeld raw) = returned.NotHeld raw

module _ {C O X : Type 0} (does : Call C O → X → X → Type 0) (depth : X → C → ℕ) where
  -- the hook after a release, where it is set; the levels are looked at in any case
  abbrev pub Releases : Bool → PoolConnectionMetadata → C → C → Check → X → X → Type 0
  Releases true meta raw now check old new = (answer : Result Bool Error) × does (after_release raw meta answer now) old new × (check ≡ check_by answer (depth new now))
  Releases false meta raw now check old new = (now ≡ raw) × (check ≡ (if depth old raw == 0 then Pass else CloseHard)) × (new ≡ old)

  -- the ping of a connection that passed so far
  abbrev pub PingsIf : Check → C → C → Check → X → X → Type 0
  PingsIf Pass raw now check old new = (answer : Result (⊤) Error) × does (ping raw answer now) old new × (check ≡ (if is_ok answer then Pass else CloseHard))
  PingsIf other raw now check old new = (now ≡ raw) × (check ≡ other) × (new ≡ old)

  -- The hook, the levels, the ping: what they make of a connection that comes back.
  pub record Returns (hook : Bool) (meta : PoolConnectionMetadata) (raw now : C) (check : Check) (old new : X) : Type 0 where
    pub released : C
    pub so_far : Check
    pub between : X
    pub releases : Releases hook meta raw released so_far old between
    pub pings : PingsIf so_far released now check between new

  -- what comes back out of the pool is closed as the tests say, gently where none ran
  abbrev pub Ends : Check → Given C → X → X → Type 0
  Ends CloseHard (given.Closed raw) old new = does (close_hard raw) old new
  Ends check (given.Closed raw) old new = does (close raw) old new
  Ends check other old new = new ≡ old

  -- the tests, where they come to it
  abbrev pub TestsIf : Bool → Bool → PoolConnectionMetadata → C → C → Check → X → X → Type 0
  TestsIf true hook meta raw now check old new = (now ≡ raw) × (check ≡ Close) × (new ≡ old)
  TestsIf false hook meta raw now check old new = Returns hook meta raw now check old new

  -- The owner's giving back at m, by the loan h that the pool keeps.
  pub record Gives (h : OwnedConn) (m : ℕ) (lent : Lent C) (core new : Core C) (old out : X) (result : Returned C) : Type 0 where
    pub now : C
    pub check : Check
    pub between : X
    pub tests : TestsIf (closes (limits_of core.options) core.shut h.created.0 m) core.options.after_release (back_meta m h.created.0) lent.raw now check old between
    pub after : Given C
    pub step : after ≡ give_answer core.options core.shut m (is_pass check) (Some h) (record lent { raw = now })
    pub ends : Ends check after between out
    pub answer : result ≡ returned_by after
    pub becomes : new ≡ core_after_give (Some h) (record lent { raw = now }) m after core
    pub makes : Logs core (give_marks lent.id m after) new

  -- a giving back, by the loan that the pool keeps of it for this client; where it keeps none, no call is made
  abbrev pub GivesBack : Option OwnedConn → ℕ → Lent C → Core C → Core C → X → X → Returned C → Type 0
  GivesBack (Some h) m lent core new old out result = Gives h m lent core new old out result
  GivesBack None m lent core new old out result = (result ≡ returned.NotHeld lent.raw) × (new ≡ core) × (out ≡ old)
