use Rattle.std.proofs.Common.{◌≡◌, ◌+◌, ◌*◌, ◌^◌, ◌<◌, vec_len}
use Rattle.sqlx_play_crowd.proofs.jobs.gather.Given as goal

-- what isn't gathered yet has room
abbrev pub invariant-loop-at : goal.invariant-loop-at
invariant-loop-at g l = (vec_len l.parts + l._at ≡ vec_len l.fn.parts) × (l.all.parts ≡ l.fn.all.parts + l._at) × (l.all.loans + vec_len l.parts * 2 ^ 32 < 2 ^ 64)
