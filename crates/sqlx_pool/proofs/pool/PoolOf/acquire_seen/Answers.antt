use Rattle.std.proofs.Common.{Ok, true, subst}
use Rattle.sqlx_pool.specs.Calls as call
use Rattle.sqlx_pool.specs.Refusals.{IsAskRefusal}
use Rattle.sqlx_pool.specs.Seen.{Sees, SeesStep}
use Rattle.sqlx_pool.proofs.pool.PoolOf.acquire_seen.Goals as goal

pub returns-in-Ok-asked-clause-asked : goal.returns-in-Ok-asked-clause-asked
returns-in-Ok-asked-clause-asked g c =
    rw c.new.ensures.ticket.1
    (subst (λ s. SeesStep g.S.PoolSteps.stands c.args.me.now c.ask-asked.new.me (g.S.PoolSteps.does (call.Ask s.name c.args.now c.args.client (Ok c.in-Ok-asked.ticket)))) c.deref.ensures c.in-Ok-asked.ensures.saw)

pub returns-in-Err-clause-refused : goal.returns-in-Err-clause-refused
returns-in-Err-clause-refused g c =
    subst (λ s. IsAskRefusal (Sees g.S.PoolSteps.stands c.args.me.now c.ask-asked.new.me (g.S.PoolSteps.tells (call.IsClosed s.name true))) (Sees g.S.PoolSteps.stands c.args.me.now c.ask-asked.new.me (g.S.PoolSteps.tells call.TicketsUsed)) c.in-Err.error) c.deref.ensures c.in-Err.ensures.refused
