use Rattle.std.proofs.Common.{ap}
use Rattle.sqlx_pool_core.specs.LonePool.{LonePool}
use Rattle.mem_store.specs.Store.{Link}
use Rattle.sqlx_play.specs.stage.Scene.{scene_of}
use Rattle.sqlx_play.proofs.scripts.Played.{plays, left_plays}
use Rattle.sqlx_play.proofs.player.play_by.Goals as goal

pub returns-in-Ok-clause-ok : goal.returns-in-Ok-clause-ok
returns-in-Ok-clause-ok g c =
    let h = c.in-Ok.ensures.ok in
    (h.0, h.1, left_plays _ _ _ _ _ _ _ (plays _ _ _ (scene_of c.in-Ok.left.stage) c.in-Ok.left.last h.2) (ap (λ (whole : LonePool Link). whole.pool) c.into_played.ensures.core) c.into_played.ensures.store)
