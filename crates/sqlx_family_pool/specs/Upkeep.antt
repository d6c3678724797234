-- What a pool of a family has to reap, to test, to open and to close, which ticket an ask gets, what a copy of its log says, and why an ask or a loan past the line is refused.
use Rattle.std.specs.Prelude.{◌≡◌, ◌⊎◌, ◌^◌, ◌<◌, ◌≤◌, ℕ, Bool, false, List, Option}
use Rattle.sqlx_text.specs.declared.Moment.{Moment}
use Rattle.sqlx_pool_marks.specs.EventTable.{closes}
use Rattle.sqlx_pool_lists.specs.declared.steps.Idle.{Idle}
use Rattle.sqlx_pool_lists.specs.Limits.{limits_of}
use Rattle.sqlx_pool_core.specs.Logs.{moment_of}
use Rattle.sqlx_pool_lists.specs.MaintenanceSteps.{close_answer, has_place_if, reap_answer}
use Rattle.sqlx_family.specs.Pools.{pool_in}
use Rattle.sqlx_family.specs.RootLine.{passes_in}
use Rattle.sqlx_pool.specs.Places.{holds_place}
use Rattle.sqlx_pool.specs.Upkeep.{test_unless}
use Rattle.sqlx_pool_parts.specs.declared.mark_log.MarkLog.{MarkLog}
use Rattle.sqlx_family_pool.specs.FamilyState.{FamilyState, start_at, start_in, since_start_in}

module _ {C O : Type 0} where
  -- the idle connection of a pool that is reaped first at this moment, if one is
  abbrev pub to_reap_in : ℕ → Moment → FamilyState C O → Option (Idle C)
  to_reap_in pool now state = let core = pool_in pool state.family in reap_answer (passes_in pool state.family) core.options (moment_of core now) core.idle

  -- when a connection of this opening that comes back to a pool is tested
  abbrev pub back_test_in : ℕ → Moment → Moment → FamilyState C O → Option Moment
  back_test_in pool created now state = let core = pool_in pool state.family in let m = moment_of core now in test_unless (closes (limits_of core.options) core.closed created.0 m) m

  -- a connection may be opened for the minimum of a pool
  abbrev pub has_room_in : ℕ → FamilyState C O → Bool
  has_room_in pool state = let core = pool_in pool state.family in has_place_if (passes_in pool state.family) core.options.min_connections core

  -- none may be opened for the minimum of a pool, or no place is held for one
  abbrev pub IsFilledIn : ℕ → FamilyState C O → Type 0
  IsFilledIn pool state = (has_room_in pool state ≡ false) ⊎ (holds_place (pool_in pool state.family) ≡ false)

  -- the idle connections that a close of a pool gives back
  abbrev pub to_close_in : ℕ → FamilyState C O → List (Idle C)
  to_close_in pool state = let core = pool_in pool state.family in close_answer core.shut core.idle

  -- the ticket of an ask: it is the one that comes next in the family
  abbrev pub IsNextTicket : ℕ → FamilyState C O → Type 0
  IsNextTicket ticket state = ticket ≡ state.family.shared.next_ticket

  -- the family's numbers of tickets are used up
  abbrev pub AreTicketsUsed : FamilyState C O → Type 0
  AreTicketsUsed state = 2 ^ 63 < state.family.shared.next_ticket

  -- the family made as many loans as are made past the line
  abbrev pub AreLoansUsed : FamilyState C O → Type 0
  AreLoansUsed state = 2 ^ 62 ≤ state.booked.made

  -- a copy of the log of the pool of this name: its start, how many loans were forgotten before that, and the marks behind it
  abbrev pub IsLogOf : ℕ → MarkLog → FamilyState C O → Type 0
  IsLogOf pool log state = (log.start.items ≡ start_in state pool) × (log.lent_before ≡ (start_at state pool).lent_before) × (log.marks.items ≡ since_start_in state pool)

  -- what is read of a pool: its maximum, and a copy of its log
  abbrev pub IsReadOf : ℕ → ℕ → MarkLog → FamilyState C O → Type 0
  IsReadOf pool most log state = (most ≡ (pool_in pool state.family).options.max_connections) × IsLogOf pool log state
