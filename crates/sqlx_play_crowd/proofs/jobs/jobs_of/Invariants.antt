use Rattle.std.proofs.Common.{◌≡◌, ◌+◌, ◌≤◌, vec_len, vec_capacity}
use Rattle.sqlx_play_crowd.proofs.jobs.jobs_of.Given as goal

-- each outside that was taken has its job
abbrev pub invariant-loop-at : goal.invariant-loop-at
invariant-loop-at g l = (vec_len l.outs + l.at ≡ l.count) × (vec_len l.jobs ≡ l.at) × (l.count ≤ vec_capacity l.jobs) × (l.all.parts + l.at ≡ l.fn.all.parts) × (l.all.loans ≡ l.fn.all.loans)
