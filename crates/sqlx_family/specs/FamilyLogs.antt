-- A family has a log for each of its pools.
use Rattle.std.specs.Prelude.{◌≡◌, ℕ, ◌<◌, ◌≤◌, ◌==◌, List, ◌++◌, if◌then◌else◌, length}
use Rattle.sqlx_pool_marks.specs.declared.mark.Mark.{Mark}
use Rattle.sqlx_pool_marks.specs.Marks.{next_ticket, next_conn}
use Rattle.sqlx_pool_marks.specs.FairLog.{IsSafe}
use Rattle.sqlx_pool_lists.specs.StandsFor.{StandsIn}
use Rattle.sqlx_family.specs.Pools.{Pools, pool_in}

-- Each pool stands for its own log, by its name.
abbrev pub StandTogether : {C : Type 0} → Pools C → (ℕ → List Mark) → Type 0
StandTogether f logs = (q : ℕ) → q < length f.pools → StandsIn (pool_in q f) (logs q)

-- A number comes next in so many logs: it comes next in one of them, and in none a greater one.
pub record IsNext (next : List Mark → ℕ) (logs : ℕ → List Mark) (pools n : ℕ) : Type 0 where
  pub most : (q : ℕ) → q < pools → next (logs q) ≤ n
  pub one : (q : ℕ) × ((q < pools) × (next (logs q) ≡ n))

-- The family's next numbers are one more than the greatest of their kind in any log, and 1 where there is none.
unfoldable pub Numbered : {C : Type 0} → Pools C → (ℕ → List Mark) → Type 0
Numbered f logs = IsNext next_ticket logs (length f.pools) f.shared.next_ticket × IsNext next_conn logs (length f.pools) f.shared.next_conn

-- the logs with these marks behind that of one pool
abbrev pub with_marks : ℕ → List Mark → (ℕ → List Mark) → ℕ → List Mark
with_marks q made logs p = if p == q then logs p ++ made else logs p

-- Each pool stands for its log with the marks that the step of one of them made, they are safe in that one's log, and the next numbers go on being one more than the greatest.
pub record MakesTogether {C : Type 0} (max q : ℕ) (logs : ℕ → List Mark) (made : List Mark) (old new : Pools C) : Type 0 where
  pub stand : StandTogether new (with_marks q made logs)
  pub numbered : Numbered old logs → Numbered new (with_marks q made logs)
  pub safe : IsSafe max (logs q) made

-- Whatever logs the pools stood for, they stand for them with these marks behind that of one pool, where they are safe.
abbrev pub FamilyLogs : {C : Type 0} → Pools C → ℕ → List Mark → Pools C → Type 0
FamilyLogs old q made new = (logs : ℕ → List Mark) → StandTogether old logs → MakesTogether (pool_in q old).options.max_connections q logs made old new
