use Rattle.std.proofs.Common.{◌≡◌, ℕ, ◌<◌, ◌==◌, false, Some, slice_get}
use Rattle.sqlx_pool_lists.specs.declared.ticket.OwnedConn.{OwnedConn}
use Rattle.sqlx_pool_lists.proofs.held_list.look_for.Given as goal

-- no place so far has it
abbrev pub invariant-loop-place : goal.invariant-loop-place
invariant-loop-place l = (j : ℕ) → j < l.place → (h : OwnedConn) → slice_get l.places j ≡ Some (Some h) → (l.conn == h.conn) ≡ false
