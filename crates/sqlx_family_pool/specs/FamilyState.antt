-- The value under the lock of a family of pools.
use Rattle.std.specs.Prelude.{◌≡◌, ℕ, ◌+◌, ◌^◌, ◌<◌, ◌≤◌, Bool, false, List, [], ◌++◌, Option, IfSome, length, max, sum_by, slice_index_or, slice_set, take, drop}
use Rattle.sqlx_pool_marks.specs.declared.mark.Mark.{Mark}
use Rattle.sqlx_pool_marks.specs.FairLog.{IsSafe}
use Rattle.sqlx_pool_lists.specs.Balance.{lents, marks_due}
use Rattle.sqlx_family.specs.declared.family.FamilyPool.{FamilyPool}
use Rattle.sqlx_family.specs.Pools.{Pools, pool_in}
use Rattle.sqlx_family.specs.IsFamily.{maximum_of}
use Rattle.sqlx_family.specs.FamilyLogs.{StandTogether, Numbered}
use Rattle.sqlx_pool_parts.specs.declared.log_start.LogStart.{LogStart}
use Rattle.sqlx_pool_parts.specs.declared.mark_log.MarkLog.{MarkLog}
use Rattle.sqlx_pool_parts.specs.Booked.{Booked}
use Rattle.sqlx_pool_parts.specs.State.{RestFlat, no_start}
use Rattle.sqlx_family_steps.specs.FamilyCut.{cut_in, start_cut}

-- A family, a log for each of its pools by the pool's name, where each log begins, the options by which connections are opened, and the books, which count all pools.
pub record FamilyState (C O : Type 0) : Type 0 where
  pub family : Pools C
  pub logs : List (List Mark)
  pub starts : List LogStart
  pub connect : O
  pub booked : Booked

-- the state of these parts
abbrev pub family_state : {C O : Type 0} → Pools C → List (List Mark) → List LogStart → O → Booked → FamilyState C O
family_state family logs starts connect booked = record { family = family; logs = logs; starts = starts; connect = connect; booked = booked }

-- a pool has this name
abbrev pub IsNamed : {C O : Type 0} → ℕ → FamilyState C O → Type 0
IsNamed q state = q < length state.family.pools

-- no pool has this name
abbrev pub IsUnnamed : {C O : Type 0} → ℕ → FamilyState C O → Type 0
IsUnnamed q state = length state.family.pools ≤ q

-- the log of the pool of this name
abbrev pub log_of : {C O : Type 0} → FamilyState C O → ℕ → List Mark
log_of state q = slice_index_or state.logs q []

-- where the log of the pool of this name begins
abbrev pub start_at : {C O : Type 0} → FamilyState C O → ℕ → LogStart
start_at state q = slice_index_or state.starts q no_start

-- the marks with which that log begins
abbrev pub start_in : {C O : Type 0} → FamilyState C O → ℕ → List Mark
start_in state q = take (start_at state q).len (log_of state q)

-- the marks behind its start
abbrev pub since_start_in : {C O : Type 0} → FamilyState C O → ℕ → List Mark
since_start_in state q = drop (start_at state q).len (log_of state q)

-- where that pool has a limit, there are behind the start at most as many marks as that, or as the start has
abbrev pub IsWithinLimitIn : {C O : Type 0} → FamilyState C O → ℕ → Type 0
IsWithinLimitIn state q = IfSome (start_at state q).limit (λ limit. length (since_start_in state q) ≤ max limit (start_at state q).len)

-- the logs with these marks behind that of one pool; the others are as they were
abbrev pub with_made : ℕ → List Mark → List (List Mark) → List (List Mark)
with_made q made logs = slice_set logs q (slice_index_or logs q [] ++ made)

-- the logs and their starts with that of one pool cut; the others are as they were
abbrev pub cut_at : {C O : Type 0} → ℕ → FamilyState C O → FamilyState C O
cut_at q state =
    let left = cut_in state.family.shared (log_of state q) in
    record state { logs = slice_set state.logs q left; starts = slice_set state.starts q (start_cut (start_at state q) (log_of state q) left) }

-- one pool has this limit; all else is as it was
abbrev pub limited_at : {C O : Type 0} → ℕ → Option ℕ → FamilyState C O → FamilyState C O
limited_at q limit state = record state { starts = slice_set state.starts q (record (start_at state q) { limit = limit }) }

-- how many connections of a pool have an owner
abbrev pub held_in : {C : Type 0} → FamilyPool C → ℕ
held_in p = length p.core.held

-- how many tickets of a pool haven't ended
abbrev pub tickets_in : {C : Type 0} → FamilyPool C → ℕ
tickets_in p = length p.core.tickets

-- how many loans a log tells no more
abbrev pub forgotten : LogStart → ℕ
forgotten start = start.lent_before

-- how many loans a copy of a log tells of: those of its start and of the marks behind it, and those that were forgotten
abbrev pub loans_told : MarkLog → ℕ
loans_told log = log.lent_before + lents (log.start.items ++ log.marks.items)

-- What holds whenever the lock is free: each pool stands for its own log, which is safe behind its start for a pool of its maximum; where logs can't be cut no log has a start or a limit; no idle connection has a level open; the root has this maximum, and no pool a greater one; the books are the counts over all pools; and the numbers that come next are one more than the greatest in any log.
pub record IsStanding {C O : Type 0} (levels : C → ℕ) (max : ℕ) (cuts : Bool) (state : FamilyState C O) : Type 0 where
  pub each : length state.logs ≡ length state.family.pools
  pub each_start : length state.starts ≡ length state.family.pools
  pub stand : StandTogether state.family (log_of state)
  pub safe : (q : ℕ) → IsNamed q state → IsSafe (pool_in q state.family).options.max_connections (start_in state q) (since_start_in state q)
  pub begins : (q : ℕ) → IsNamed q state → (start_at state q).len ≤ length (log_of state q)
  pub uncut : cuts ≡ false → (q : ℕ) → IsNamed q state → start_at state q ≡ no_start
  pub rest : (q : ℕ) → IsNamed q state → RestFlat levels (pool_in q state.family).idle
  pub most : maximum_of state.family ≡ max
  pub fits : (q : ℕ) → IsNamed q state → (pool_in q state.family).options.max_connections ≤ max
  pub owned : state.booked.owned ≡ sum_by held_in state.family.pools
  pub made : state.booked.made ≡ sum_by forgotten state.starts + sum_by lents state.logs
  pub numbered : Numbered state.family (log_of state)

-- It stands, its numbers have bounds, and each log has memory for all marks that are due.
pub record IsKept {C O : Type 0} (levels : C → ℕ) (max : ℕ) (cuts : Bool) (state : FamilyState C O) (capacities : List ℕ) : Type 0 where
  pub standing : IsStanding levels max cuts state
  pub asked : sum_by tickets_in state.family.pools + 1 ≤ state.family.shared.next_ticket
  pub few : state.booked.made + sum_by tickets_in state.family.pools + 1 ≤ 2 ^ 62 + state.family.shared.next_ticket
  pub room : (q : ℕ) → IsNamed q state → length (log_of state q) + marks_due (pool_in q state.family) ≤ slice_index_or capacities q 0
