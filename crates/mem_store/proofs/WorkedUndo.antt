-- The undo log on a worked row: a level with one write, in it a level with two, which is rolled back, one more write, and the outer level's rollback.
use Rattle.std.proofs.Common.{◌≡◌, refl}
use Rattle.sqlx_savepoints.specs.declared.level_text.LevelText.TheVariants.{Begin, Rollback, Savepoint, RollbackTo}
use Rattle.mem_store.specs.Undo.{Undo, no_undo, noted_at, undo_after, Counts}

abbrev outer : Undo
outer = noted_at 1 (undo_after Begin no_undo)

abbrev inner : Undo
inner = noted_at 2 (noted_at 2 (undo_after (Savepoint 1) outer))

abbrev back : Undo
back = undo_after (RollbackTo 1) inner

abbrev last : Undo
last = noted_at 1 back

-- the inner rollback counts two
pub inner_counts : Counts (RollbackTo 1) 0 inner 2 back
inner_counts = refl

-- the outer one counts two, and nothing is left
pub outer_counts : Counts Rollback 2 last 4 (undo_after Rollback last)
outer_counts = refl

pub none_left : (undo_after Rollback last).len ≡ 0
none_left = refl
