use Rattle.std.proofs.Common.{◌≡◌, take}
use Rattle.sqlx_pool_places.specs.Numbered.{items_at}
use Rattle.mem_store.specs.UndoLog.{unwritten, values_inserted}
use Rattle.mem_store.proofs.writes.insert_values.Given as goal

-- the values so far are inserted, and can be undone
abbrev pub invariant-loop-place : goal.invariant-loop-place
invariant-loop-place l = (l.rows ≡ values_inserted (items_at (take l.place-index l.places)) l.initial.rows) × (unwritten l.noted.items l.rows ≡ unwritten l.initial.noted.items l.initial.rows)
