use Rattle.std.proofs.Common.{length, ◌-◌, ◌≡◌, ◌==◌, false, take, ◌≤◌, All}
use Rattle.sqlx_transfer.specs.declared.holder.Holder.{Holder}
use Rattle.sqlx_transfer.proofs.holder.place_of.Given as goal

-- none so far is the client
abbrev pub invariant-loop-place : goal.invariant-loop-place
invariant-loop-place l = (l.place ≤ length l.holders) × All (λ (h : Holder). (h.client == l.client) ≡ false) (take l.place l.holders)

abbrev pub decreases-loop-place : goal.decreases-loop-place
decreases-loop-place l = length l.holders - l.place
