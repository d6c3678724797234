-- Jobs kept in rows: one row has how many there are, and each job has one for its state, one for the end of its hold, and one for its holder. A missing row counts as 0.
use Rattle.std.specs.Prelude.{◌≡◌, ℕ, ◌+◌, ◌<◌, ◌≤◌, ◌^◌, ℤ, pos, negsuc, if◌then◌else◌, count_by, Option, Some, None}
use Rattle.std.specs.FinMap.{get}
use Rattle.sqlx_savepoints.specs.Rows.{Rows}
use Rattle.sqlx_jobs_rules.specs.Jobs.{Hold, Jobs, max_jobs, is_ready, is_held, numbers_from}

-- the number that a row holds
abbrev pub number_of : Option ℤ → ℕ
number_of None = 0
number_of (Some (pos n)) = n
number_of (Some (negsuc n)) = 0

-- the number in the row of a key
abbrev pub number_at : Rows → ℕ → ℕ
number_at rows key = number_of (get rows (pos key))

-- the key of the count of jobs
abbrev pub count_key : ℕ
count_key = 0

-- the key of job j's state: 1 once it is done
abbrev pub state_key : ℕ → ℕ
state_key j = 4294967296 + j

-- the key of the moment until which job j is held
abbrev pub until_key : ℕ → ℕ
until_key j = 8589934592 + j

-- the key of who holds job j until then
abbrev pub holder_key : ℕ → ℕ
holder_key j = 12884901888 + j

-- until when a hold lasts; 0 for none
abbrev pub until_of : Option Hold → ℕ
until_of None = 0
until_of (Some hold) = hold.until

-- What the rows tell of job j.
pub record TellsJob (rows : Rows) (jobs : Jobs) (j : ℕ) : Type 0 where
  pub until : number_at rows (until_key j) ≡ until_of (jobs.hold j)
  pub holder : (hold : Hold) → jobs.hold j ≡ Some hold → number_at rows (holder_key j) ≡ hold.worker
  pub done : number_at rows (state_key j) ≡ (if jobs.done j then 1 else 0)

-- The rows tell of these jobs.
pub record Tells (rows : Rows) (jobs : Jobs) : Type 0 where
  pub added : number_at rows count_key ≡ jobs.added
  pub few : jobs.added ≤ max_jobs
  pub job : (j : ℕ) → j < 2 ^ 32 → TellsJob rows jobs j

-- These are how many of the first so many jobs are ready, held and done.
pub record AreCounted (m : ℕ) (jobs : Jobs) (many ready held done : ℕ) : Type 0 where
  pub of_ready : ready ≡ count_by (is_ready m jobs) (numbers_from 1 many)
  pub of_held : held ≡ count_by (is_held m jobs) (numbers_from 1 many)
  pub of_done : done ≡ count_by jobs.done (numbers_from 1 many)
