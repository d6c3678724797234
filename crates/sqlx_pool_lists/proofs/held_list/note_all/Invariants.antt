use Rattle.std.proofs.Common.{◌≡◌, ℕ, ◌<◌, nat_eq, Some, slice_get}
use Rattle.std.specs.HashMap.{get}
use Rattle.sqlx_pool_lists.specs.declared.ticket.OwnedConn.{OwnedConn}
use Rattle.sqlx_pool_lists.proofs.held_list.note_all.Given as goal

-- each place so far is noted
abbrev pub invariant-loop-place : goal.invariant-loop-place
invariant-loop-place l = (j : ℕ) → j < l.place → (h : OwnedConn) → slice_get l.places j ≡ Some (Some h) → get nat_eq l.noted h.conn ≡ Some j
