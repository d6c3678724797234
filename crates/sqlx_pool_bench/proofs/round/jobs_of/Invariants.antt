use Rattle.std.proofs.Common.{◌≡◌, ◌+◌, ◌≤◌, vec_len, vec_capacity}
use Rattle.sqlx_pool_bench.proofs.round.jobs_of.Given as goal

-- a job for each number up to here
abbrev pub invariant-loop-at : goal.invariant-loop-at
invariant-loop-at g l = (vec_len l.jobs ≡ l.at) × (l.workers ≤ vec_capacity l.jobs) × (l.all.parts + l.at ≡ l.fn.all.parts) × (l.all.loans ≡ l.fn.all.loans)
