-- What a pool has to reap, to test and to open, whose turn it is, and when a call that opens for the minimum ends.
use Rattle.std.specs.Prelude.{◌≡◌, ◌⊎◌, ℕ, ◌+◌, ⊤, Bool, true, false, List, Option, Some, None, nat_lt}
use Rattle.std.specs.List.{list_any}
use Rattle.sqlx_text.specs.declared.Moment.{Moment}
use Rattle.sqlx_pool_marks.specs.EventTable.{closes, reaped_at, has_place_at}
use Rattle.sqlx_pool_marks.specs.Marks.{is_shut}
use Rattle.sqlx_pool_lists.specs.declared.options.PoolOptions.{PoolOptions}
use Rattle.sqlx_pool_lists.specs.declared.steps.Openings.{Openings}
use Rattle.sqlx_pool_lists.specs.Core.{Core}
use Rattle.sqlx_pool_lists.specs.CoreTurn.{is_first_in_line}
use Rattle.sqlx_pool_lists.specs.Limits.{limits_of}
use Rattle.sqlx_pool_lists.specs.PollSteps.{phase_for, is_in_line}
use Rattle.sqlx_pool_core.specs.Logs.{moment_of}
use Rattle.sqlx_pool.specs.Calls.{Look}
use Rattle.sqlx_pool.specs.Calls as call
use Rattle.sqlx_pool.specs.Places.{holds_place}
use Rattle.sqlx_pool.specs.Seen.{HasSeen}
use Rattle.sqlx_pool_parts.specs.State.{PoolState}
use Rattle.sqlx_pool_parts.specs.declared.filled.Filled.{Filled}
use Rattle.sqlx_pool_parts.specs.declared.filled.Filled.TheVariants as filled

-- at this moment, or not at all where it is to be closed anyway
abbrev pub test_unless : Bool → ℕ → Option Moment
test_unless true m = None
test_unless false m = Some (record { 0 = m })

-- the waiting tickets that are entitled are those up to this one
abbrev pub AreEntitledTo : {C : Type 0} → ℕ → Core C → Type 0
AreEntitledTo last core = (client ticket : ℕ) → is_in_line (phase_for client ticket core.tickets) ≡ true → is_first_in_line ticket core ≡ nat_lt ticket (last + 1)

module _ {C O : Type 0} where
  -- when a connection of this opening that comes back is tested
  abbrev pub back_test : Moment → Moment → PoolState C O → Option Moment
  back_test created now state = let m = moment_of state.core now in test_unless (closes (limits_of state.core.options) (list_any is_shut state.marks) created.0 m) m

  -- the idle connection that is reaped first at this moment, if one is
  abbrev pub to_reap : Moment → PoolState C O → Option ℕ
  to_reap now state = reaped_at (limits_of state.core.options) state.core.places state.marks (moment_of state.core now)

  -- a connection may be opened for the minimum
  abbrev pub has_room : PoolState C O → Bool
  has_room state = has_place_at (limits_of state.core.options) state.core.places state.marks state.core.options.min_connections

  -- no connection may be opened for the minimum, or no place is held for one
  abbrev pub IsFilled : PoolState C O → Type 0
  IsFilled state = (has_room state ≡ false) ⊎ (holds_place state.core ≡ false)

-- a state was seen in which no connection may be opened for the minimum, or no place is held for one
module _ {N L O S : Type 0} (stands : S → Type 0) (tells : Look N L O → S → Type 0) (name : N) where
  abbrev pub SawFilled : List S → List S → Type 0
  SawFilled seen seen_now = HasSeen stands seen seen_now (tells (call.IsFilled name))

-- why a try for the minimum opened nothing, but for want of memory: the pool had no place, or a refusal was counted
abbrev pub IfUnfilled : Filled → Type 0 → Type 0 → Type 0
IfUnfilled filled.Full saw counted = saw
IfUnfilled filled.Refused saw counted = counted
IfUnfilled other saw counted = ⊤

-- keeping the minimum ends where as many were opened as the pool may have, for want of memory, where the pool had no place, or where a refusal was counted
abbrev pub EndsKeeping : PoolOptions → Type 0 → Type 0 → Openings → Type 0
EndsKeeping options saw counted openings = (openings.opened ≡ options.max_connections) ⊎ (openings.short ≡ true) ⊎ saw ⊎ counted
