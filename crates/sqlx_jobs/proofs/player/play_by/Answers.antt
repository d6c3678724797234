use Rattle.sqlx_jobs.proofs.Working.{worked}
use Rattle.sqlx_jobs.proofs.player.play_by.Goals as goal

pub returns-in-Ok-clause-ok : goal.returns-in-Ok-clause-ok
returns-in-Ok-clause-ok g c = let h = c.in-Ok.ensures.ok in worked c.in-Ok.queue.core.pool c.in-Ok.queue.store _ c.in-Ok.queue.lease c.in-Ok.queue.last h.0 _ c.into_parts-core.ensures.1 h.1 h.2
