use Rattle.sqlx_transfer.proofs.Worked.{worked}
use Rattle.sqlx_transfer.proofs.player.play_by.Goals as goal

pub returns-in-Ok-clause-ok : goal.returns-in-Ok-clause-ok
returns-in-Ok-clause-ok g c = let h = c.in-Ok.ensures.ok in worked c.in-Ok.bank.core.pool c.in-Ok.bank.store _ c.in-Ok.bank.holders.items c.in-Ok.bank.line h.0 _ c.into_parts-core.ensures.1 h.1 h.2
