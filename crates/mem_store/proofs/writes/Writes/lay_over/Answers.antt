use Rattle.std.proofs.Common.{◌∙◌, ap}
use Rattle.sqlx_pool_places.specs.Numbered.{items_at}
use Rattle.mem_store.specs.UndoLog.{deletions_done}
use Rattle.mem_store.proofs.LaidInPlace.{in_place_laid}
use Rattle.mem_store.proofs.writes.Writes.lay_over.Goals as goal

pub returns-in-Ok-clause-ok : goal.returns-in-Ok-clause-ok
returns-in-Ok-clause-ok c =
    let inserted = rw c.deref.ensures.value at c.in-Ok.ensures.ok in
    let deleted = rw c.deref-in-Ok.ensures.value at c.do_deletions.ensures in
    rw (← c.self.view_is) (deleted ∙ ap (deletions_done (items_at c.self.inside.places.items)) inserted ∙ in_place_laid (items_at c.self.inside.places.items) c.args.rows.now c.self.invariant.1)
