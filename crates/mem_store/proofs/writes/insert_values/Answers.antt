use Rattle.std.proofs.Common.{◌∙◌}
use Rattle.mem_store.proofs.LaidInPlace.{values_inserted-next}
use Rattle.mem_store.proofs.writes.insert_values.Goals as goal

pub loop-place-preserved : goal.loop-place-preserved
loop-place-preserved c = (
  values_inserted-next c.args.places.now c.loop-place.place-index c.args.rows.now c.loop-place.rows c.insert_at.new.rows c.loop-place-test.true c.loop-place.invariant.0 c.in_ok-insert_at.ensures.ok,
  c.in_ok-insert_at.ensures.undo ∙ c.loop-place.invariant.1,
)
