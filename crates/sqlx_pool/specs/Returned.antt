-- What became of a connection that was returned, and how it came to that.
use Rattle.std.specs.Prelude.{◌≡◌, ◌⊎◌, ℕ, Bool, true, false, MatchBool, List, Option, Some, None}
use Rattle.sqlx_text.specs.declared.Moment.{Moment}
use Rattle.sqlx_pool_marks.specs.EventTable.{is_too_old}
use Rattle.sqlx_pool_lists.specs.Limits.{limits_of}
use Rattle.sqlx_pool_lists.specs.declared.options.PoolOptions.{PoolOptions}
use Rattle.sqlx_pool_lists.specs.declared.steps.Given.{Given}
use Rattle.sqlx_pool_lists.specs.declared.steps.Given.TheVariants as given
use Rattle.sqlx_pool_lists.specs.declared.steps.Lent.{Lent}
use Rattle.sqlx_pool_lists.specs.declared.steps.Openings.{Openings}
use Rattle.sqlx_pool_core.specs.Calls.{Call}
use Rattle.sqlx_pool_core.specs.Giving.{back_meta, is_pass}
use Rattle.sqlx_pool_core.specs.declared.idle_check.Check.{Check}
use Rattle.sqlx_pool_core.specs.declared.idle_check.Check.TheVariants as check
use Rattle.sqlx_pool_parts.specs.Checks.{Closes, ReturnsFlat}
use Rattle.sqlx_pool.specs.Calls.{Look, Step}
use Rattle.sqlx_pool.specs.Calls as call
use Rattle.sqlx_pool.specs.Seen.{HasMade, Sees}
use Rattle.sqlx_pool.specs.Upkeep.{test_unless}
use Rattle.sqlx_pool.specs.declared.connection.Returned.{Returned}
use Rattle.sqlx_pool.specs.declared.connection.Returned.TheVariants as returned

-- it rests in the pool
abbrev pub was_kept : Returned → Bool
was_kept returned.Kept = true
was_kept other = false

-- what is told of a connection that was closed, whose loan then ended, if there was one
abbrev pub TellsEnd : Bool → Returned → Type 0
TellsEnd true result = (opened : Openings) × (result ≡ returned.Closed opened)
TellsEnd false result = result ≡ returned.NotHeld

-- When a connection that comes back is tested, and not at all where it is to be closed anyway: as its client asked for
-- it; by its age at the caller's moment, where no hook is set; or as the pool was seen to say.
abbrev pub IsTestedAt : {S N L O : Type 0} → (S → Type 0) → (Look N L O → S → Type 0) → N → Bool → PoolOptions → Moment → Moment → List S → List S → Option Moment → Type 0
IsTestedAt stands tells name true options created now seen looked at = (at ≡ None) × (looked ≡ seen)
IsTestedAt stands tells name false options created now seen looked at =
    ((options.after_release ≡ false) × (at ≡ test_unless (is_too_old (limits_of options) created.0 now.0) now.0) × (looked ≡ seen))
    ⊎ Sees stands seen looked (tells (call.TestsAt name created now at))

module _ {C O X : Type 0} (does : Call C O → X → X → Type 0) where
  -- what is told of a connection that passed its check; one that doesn't stay all the same is closed, hard where there is no such loan
  abbrev pub Tells : Given C → Returned → X → Type 0
  Tells given.Kept result old = result ≡ returned.Kept
  Tells (given.Closed raw) result old = ((opened : Openings) × (result ≡ returned.Closed opened)) × ((new : X) × Closes does check.Close raw old new)
  Tells (given.NotHeld raw) result old = (result ≡ returned.NotHeld) × ((new : X) × Closes does check.CloseHard raw old new)

  module _ (depth : X → C → ℕ) (levels : C → ℕ) where
    -- a connection of this opening is tested at this moment, or is to be closed without a test
    abbrev pub ChecksReturn : Option Moment → Bool → Moment → C → C → Check → X → X → Type 0
    ChecksReturn None hook created raw now came old new = (came ≡ check.Close) × (now ≡ raw) × (new ≡ old)
    ChecksReturn (Some m) hook created raw now came old new = ReturnsFlat does depth levels hook (back_meta m.0 created.0) raw now came old new

    module _ {N S L : Type 0} (stands : S → Type 0) (steps : Step C N → S → S → Type 0) (tells : Look N L O → S → Type 0) (name : N) where
      -- one that passed its check was given back
      abbrev pub IsGiven : ℕ → Lent C → Moment → List S → List S → Returned → X → Type 0
      IsGiven client lent now seen seen_now result old = (given : Given C) × HasMade stands seen seen_now (steps (call.Give name client lent now true given)) × Tells given result old

      -- one that didn't was closed as its check says, and behind that its loan ended
      abbrev pub IsClosedFirst : ℕ → ℕ → Check → C → List S → List S → Returned → X → Type 0
      IsClosedFirst client id how raw seen seen_now result old = ((new : X) × Closes does how raw old new) × (ended : Bool) × HasMade stands seen seen_now (steps (call.CloseLoan name client id ended)) × TellsEnd ended result

      -- A connection was checked, and given back or closed.
      pub record GivesBack (closes : Bool) (options : PoolOptions) (client : ℕ) (lent : Lent C) (now : Moment) (seen seen_now : List S) (result : Returned) (old : X) : Type 0 where
        pub at : Option Moment
        pub looked : List S
        pub decides : IsTestedAt stands tells name closes options lent.created now seen looked at
        pub check : Check
        pub tested : C
        pub between : X
        pub checks : ChecksReturn at options.after_release lent.created lent.raw tested check old between
        pub goes : MatchBool (is_pass check) (IsGiven client (record lent { raw = tested }) now looked seen_now result between) (IsClosedFirst client lent.id check tested looked seen_now result between)
