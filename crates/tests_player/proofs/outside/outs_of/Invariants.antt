use Rattle.std.proofs.Common.{◌≡◌, ◌≤◌, vec_len, vec_capacity}
use Rattle.tests_player.proofs.outside.outs_of.Given as goal

-- an outside a round
abbrev pub invariant-loop-at : goal.invariant-loop-at
invariant-loop-at g l = (vec_len l.outs ≡ l.at) × (l.workers ≤ vec_capacity l.outs)
