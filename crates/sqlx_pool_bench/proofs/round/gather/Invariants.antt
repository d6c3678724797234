use Rattle.std.proofs.Common.{◌+◌, ◌*◌, ◌^◌, ◌<◌, vec_len}
use Rattle.sqlx_pool_bench.proofs.round.gather.Given as goal

-- what isn't gathered yet has room
abbrev pub invariant-loop-at : goal.invariant-loop-at
invariant-loop-at g l = l.all.loans + vec_len l.parts * 2 ^ 32 < 2 ^ 64
