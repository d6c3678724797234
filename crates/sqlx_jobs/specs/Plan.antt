-- What an event is answered where it is accepted, and which rows it writes then.
use Rattle.std.specs.Prelude.{ℕ, ◌+◌, pos, Bool, true, false, nat_lt, if◌then◌else◌, Option, Some, None}
use Rattle.sqlx_jobs_rules.specs.declared.event.Act.{Act}
use Rattle.sqlx_jobs_rules.specs.declared.event.Act.TheVariants.{Add, Claim, Extend, Finish, Drop, Count}
use Rattle.sqlx_jobs_rules.specs.declared.event.Met.{Met}
use Rattle.sqlx_jobs_rules.specs.declared.event.Met.TheVariants.{Accepted}
use Rattle.sqlx_jobs_rules.specs.declared.reply.Reply.{Reply}
use Rattle.sqlx_jobs_rules.specs.declared.reply.Reply.TheVariants.{Full, Job, Empty, Claimed, NotHeld, Extended, Finished, Dropped}
use Rattle.sqlx_jobs_rules.specs.Jobs.{Jobs, first_of, is_ready, numbers, holds, counted, max_jobs}
use Rattle.sqlx_jobs.specs.declared.change.Put.{Put}
use Rattle.sqlx_jobs.specs.declared.change.Change.{Change}
use Rattle.sqlx_jobs.specs.declared.plan.Plan.{Plan}
use Rattle.sqlx_jobs.specs.Kept.{count_key, state_key, until_key, holder_key}

-- a number in the row of a key
abbrev pub put : ℕ → ℕ → Put
put key value = record { key = pos key; value = pos value }

-- one row
abbrev pub one : Put → Change
one first = record { first = first; second = None }

-- two rows
abbrev pub two : Put → Put → Change
two first second = record { first = first; second = Some second }

-- an answer with nothing to write
abbrev pub only : Reply → Plan
only reply = record { reply = reply; change = None }

-- an answer with rows to write
abbrev pub with : Reply → Change → Plan
with reply change = record { reply = reply; change = Some change }

-- where so many jobs are there, one more
abbrev pub add_plan : ℕ → Plan
add_plan added = if nat_lt added max_jobs then with (Job (added + 1)) (one (put count_key (added + 1))) else only Full

-- the least ready job, if there is one, is claimed
abbrev pub claim_plan : ℕ → ℕ → Option ℕ → Plan
claim_plan until worker None = only Empty
claim_plan until worker (Some j) = with (Claimed j until) (two (put (holder_key j) worker) (put (until_key j) until))

-- a job that the worker holds is changed
abbrev pub held_plan : Bool → Reply → Change → Plan
held_plan held reply change = if held then with reply change else only NotHeld

-- the worker has job j until then
abbrev pub extend_plan : Bool → ℕ → ℕ → Plan
extend_plan held j until = held_plan held (Extended until) (one (put (until_key j) until))

-- job j is done, and nobody's
abbrev pub finish_plan : Bool → ℕ → Plan
finish_plan held j = held_plan held Finished (two (put (state_key j) 1) (put (until_key j) 0))

-- job j is nobody's
abbrev pub drop_plan : Bool → ℕ → Plan
drop_plan held j = held_plan held Dropped (one (put (until_key j) 0))

-- the plan for an act at a moment
abbrev pub plan_at : ℕ → ℕ → Jobs → Act → Plan
plan_at lease m jobs (Add a) = add_plan jobs.added
plan_at lease m jobs (Claim w a) = claim_plan (m + lease) w (first_of (is_ready m jobs) (numbers jobs))
plan_at lease m jobs (Extend w j a) = extend_plan (holds m w j jobs) j (m + lease)
plan_at lease m jobs (Finish w j a) = finish_plan (holds m w j jobs) j
plan_at lease m jobs (Drop w j a) = drop_plan (holds m w j jobs) j
plan_at lease m jobs Count = only (counted m jobs)

-- what meets an act
abbrev pub met_of : Act → Met
met_of (Add a) = a
met_of (Claim w a) = a
met_of (Extend w j a) = a
met_of (Finish w j a) = a
met_of (Drop w j a) = a
met_of Count = Accepted

-- whether an act works in a level
abbrev pub works : Act → Bool
works Count = false
works act = true

-- the job that an act names; 0 where it names none
abbrev pub job_of : Act → ℕ
job_of (Extend w j a) = j
job_of (Finish w j a) = j
job_of (Drop w j a) = j
job_of act = 0
