use Rattle.std.proofs.Common.{◌≡◌, take}
use Rattle.sqlx_pool_places.specs.Numbered.{items_at}
use Rattle.mem_store.specs.UndoLog.{deletions_done}
use Rattle.mem_store.proofs.writes.do_deletions.Given as goal

-- the deletions so far are done
abbrev pub invariant-loop-place : goal.invariant-loop-place
invariant-loop-place l = l.rows ≡ deletions_done (items_at (take l.place-index l.places)) l.initial.rows
