use Rattle.mem_store.proofs.LaidInPlace.{deletions_done-next}
use Rattle.mem_store.proofs.writes.do_deletions.Goals as goal

pub loop-place-preserved : goal.loop-place-preserved
loop-place-preserved c = deletions_done-next c.args.places.now c.loop-place.place-index c.args.rows.now c.loop-place.rows c.delete_at.new.rows c.loop-place-test.true c.loop-place.invariant c.delete_at.ensures
