-- The value under the lock of a pool.
use Rattle.std.specs.Prelude.{◌≡◌, ℕ, ◌+◌, ◌^◌, ◌≤◌, Bool, false, List, All, None, IfSome, length, max, take, drop}
use Rattle.sqlx_pool_marks.specs.declared.mark.Mark.{Mark}
use Rattle.sqlx_pool_marks.specs.FairLog.{IsFair}
use Rattle.sqlx_pool_lists.specs.declared.steps.Idle.{Idle}
use Rattle.sqlx_pool_lists.specs.Core.{Core}
use Rattle.sqlx_pool_lists.specs.StandsFor.{StandsFor}
use Rattle.sqlx_pool_lists.specs.Balance.{lents, marks_due}
use Rattle.sqlx_pool_parts.specs.Booked.{Booked}
use Rattle.sqlx_pool_parts.specs.declared.log_start.LogStart.{LogStart}

-- A core, the log of what its steps did, the first marks of which are its start, the options by which connections are opened, and the books.
pub record PoolState (C O : Type 0) : Type 0 where
  pub core : Core C
  pub marks : List Mark
  pub start : LogStart
  pub connect : O
  pub booked : Booked

-- the state of these parts
abbrev pub state_of : {C O : Type 0} → Core C → List Mark → LogStart → O → Booked → PoolState C O
state_of core marks start connect booked = record { core = core; marks = marks; start = start; connect = connect; booked = booked }

-- the start of a log that was never cut: no mark is in it, no loan is forgotten, and no limit is set
abbrev pub no_start : LogStart
no_start = record { len = 0; lent_before = 0; limit = None }

-- the marks with which the log begins
abbrev pub start_of : {C O : Type 0} → PoolState C O → List Mark
start_of state = take state.start.len state.marks

-- the marks behind the start
abbrev pub since_start : {C O : Type 0} → PoolState C O → List Mark
since_start state = drop state.start.len state.marks

-- where a limit is set, there are behind the start at most as many marks as that, or as the start has
abbrev pub IsWithinLimit : {C O : Type 0} → PoolState C O → Type 0
IsWithinLimit state = IfSome state.start.limit (λ limit. length (since_start state) ≤ max limit state.start.len)

-- each of these idle connections has no level open
abbrev pub RestFlat : {C : Type 0} → (C → ℕ) → List (Idle C) → Type 0
RestFlat levels idle = All (λ i. levels i.lent.raw ≡ 0) idle

-- What holds whenever the lock is free: the core stands for its log, which is fair behind its start for a pool of this maximum; where it can't be cut the start is empty and no limit is set; the books are the counts; and no idle connection has a level open.
pub record IsStanding {C O : Type 0} (levels : C → ℕ) (max : ℕ) (cuts : Bool) (state : PoolState C O) : Type 0 where
  pub stands : StandsFor state.core state.marks
  pub fair : IsFair max (start_of state) (since_start state)
  pub begins : state.start.len ≤ length state.marks
  pub uncut : cuts ≡ false → state.start ≡ no_start
  pub most : state.core.options.max_connections ≡ max
  pub owned : state.booked.owned ≡ length state.core.held
  pub made : state.booked.made ≡ state.start.lent_before + lents state.marks
  pub rest : RestFlat levels state.core.idle

-- It stands, its numbers have bounds, and the log has memory for all marks that are due.
pub record IsKept {C O : Type 0} (levels : C → ℕ) (max : ℕ) (cuts : Bool) (state : PoolState C O) (capacity : ℕ) : Type 0 where
  pub standing : IsStanding levels max cuts state
  pub asked : length state.core.tickets + 1 ≤ state.core.next_ticket
  pub few : state.booked.made + length state.core.tickets + 1 ≤ 2 ^ 62 + state.core.next_ticket
  pub room : length state.marks + marks_due state.core ≤ capacity
