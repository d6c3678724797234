-- Worked rows of reaping, the minimum and closing.
use Rattle.std.proofs.Common.{◌≡◌, ℕ, true, false, List, [], ◌∷◌, ◌++◌, Some, None, refl}
use Rattle.sqlx_pool_lists.specs.Limits.{limits_of}
use Rattle.log.specs.declared.level.LevelFilter.TheVariants.{Off}
use Rattle.sqlx_pool_marks.specs.declared.mark.Mark.{Mark}
use Rattle.sqlx_pool_marks.specs.declared.mark.Mark.TheVariants.{Asked, Opened, Lent, Kept, Leaked, Ended, Shut}
use Rattle.sqlx_pool_lists.specs.declared.options.PoolOptions.{PoolOptions}
use Rattle.sqlx_pool_lists.specs.declared.steps.CloseState.TheVariants as state
use Rattle.sqlx_pool_marks.specs.EventTable.{reaped_at, has_place_at, closed_at}
use Rattle.sqlx_pool_lists.specs.MaintenanceSteps.{close_state_of}

-- a pool of this maximum, in which a connection is idle for 10 at most and lives for 100
abbrev options : ℕ → PoolOptions
options max = record {
  max_connections = max;
  min_connections = 0;
  acquire_timeout = 30;
  max_lifetime = Some 100;
  idle_timeout = Some 10;
  test_before_acquire = true;
  after_connect = false;
  before_acquire = false;
  after_release = false;
  acquire_time_level = Off;
  acquire_slow_level = Off;
  acquire_slow_threshold = 2;
  idle_tries = 1;
}

-- connection 1 rests since 5, connection 2 since 7
abbrev two_idle : List Mark
two_idle = Opened 1 0 ∷ Kept 1 5 ∷ Opened 2 0 ∷ Kept 2 7 ∷ []

-- ---- reaped

at_the_limit : reaped_at (limits_of (options 3)) 0 two_idle 15 ≡ None
at_the_limit = refl

above_the_limit : reaped_at (limits_of (options 3)) 0 two_idle 16 ≡ Some 1
above_the_limit = refl

the_first_first : reaped_at (limits_of (options 3)) 0 two_idle 60 ≡ Some 1
the_first_first = refl

-- what is idle since 5, and then kept again at 50, is beyond its lifetime alone
too_old : reaped_at (limits_of (options 3)) 0 (two_idle ++ Kept 1 95 ∷ Kept 2 95 ∷ []) 101 ≡ Some 1
too_old = refl

in_its_lifetime : reaped_at (limits_of (options 3)) 0 (two_idle ++ Kept 1 95 ∷ Kept 2 95 ∷ []) 100 ≡ None
in_its_lifetime = refl

one_waits : reaped_at (limits_of (options 2)) 0 (two_idle ++ Asked 1 7 90 ∷ []) 60 ≡ Some 1
one_waits = refl

as_many_wait : reaped_at (limits_of (options 2)) 0 (two_idle ++ Asked 1 7 90 ∷ Asked 2 7 90 ∷ []) 60 ≡ None
as_many_wait = refl

-- a place that is held for the minimum takes its permit
place_held : reaped_at (limits_of (options 2)) 1 (two_idle ++ Asked 1 7 90 ∷ []) 60 ≡ None
place_held = refl

closed_pool : reaped_at (limits_of (options 3)) 0 (two_idle ++ Shut ∷ []) 60 ≡ None
closed_pool = refl

-- ---- the minimum

below_both : has_place_at (limits_of (options 3)) 0 two_idle 3 ≡ true
below_both = refl

at_the_minimum : has_place_at (limits_of (options 3)) 0 two_idle 2 ≡ false
at_the_minimum = refl

at_the_maximum : has_place_at (limits_of (options 2)) 0 two_idle 5 ≡ false
at_the_maximum = refl

places_count : has_place_at (limits_of (options 3)) 1 two_idle 3 ≡ false
places_count = refl

-- ---- closed

gives_back_all : closed_at two_idle ≡ 1 ∷ 2 ∷ []
gives_back_all = refl

gives_back_none : closed_at (two_idle ++ Shut ∷ []) ≡ []
gives_back_none = refl

not_shut : close_state_of two_idle ≡ state.NotShut
not_shut = refl

closed : close_state_of (Shut ∷ []) ≡ state.Closed
closed = refl

one_owned : close_state_of (Opened 1 0 ∷ Lent 7 1 ∷ Shut ∷ []) ≡ state.Closing
one_owned = refl

one_leaked : close_state_of (Opened 1 0 ∷ Lent 7 1 ∷ Leaked 1 ∷ Shut ∷ []) ≡ state.Closing
one_leaked = refl

one_asked : close_state_of (Asked 1 7 30 ∷ Shut ∷ []) ≡ state.Closing
one_asked = refl

all_ended : close_state_of (Asked 1 7 30 ∷ Shut ∷ Ended 1 ∷ []) ≡ state.Closed
all_ended = refl
