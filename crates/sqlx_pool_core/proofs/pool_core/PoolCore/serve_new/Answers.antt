use Rattle.std.proofs.Common.{Bool, ap, ◌∙◌}
use Rattle.sqlx_pool_lists.specs.Core.{Core}
use Rattle.sqlx_pool_lists.specs.PollSteps.{try_lent}
use Rattle.sqlx_pool_core.specs.Answers.{serves_at_once}
use Rattle.sqlx_pool_core.proofs.Served.{serve-balance, serve-alone, serve-lone, serve-first}
use Rattle.sqlx_pool_core.proofs.LonePools.{pool-is}
use Rattle.sqlx_pool_core.proofs.pool_core.PoolCore.serve_new.Goals as goal

pub returns-clause-answer : goal.returns-clause-answer
returns-clause-answer g c =
    c.serve_new-lent.ensures.answer
    ∙ ap (λ (b : Bool). try_lent b c.self.inside.pool.idle) (c.serves_new-serves.ensures.answer ∙ ap (λ (b : Bool). serves_at_once b c.self.inside.pool) c.self.invariant.alone.closed)
    ∙ ap (λ (core : Core _). try_lent (serves_at_once core.shut core) core.idle) (pool-is c.self.view_is)

pub returns-clause-first : goal.returns-clause-first
returns-clause-first g c = serve-first _ _ _ (c.serve_new-lent.ensures.answer ∙ ap (λ core. try_lent c.serves_new-serves.result core.idle) (pool-is c.self.view_is))

pub returns-clause-makes : goal.returns-clause-makes
returns-clause-makes g c =
    serve-alone _ _ _ (pool-is c.self.view_is) c.args.client _ _ c.moment-moment.ensures c.serves_new-serves.result _ c.serve_new-lent.ensures.answer c.serve_new-lent.ensures.becomes c.serve_new-lent.ensures.sound c.sound.ensures c.self.invariant.alone
    c.serves_new-serves.ensures.open c.serves_new-serves.ensures.none c.serves_new-serves.ensures.permit c.serves_new-serves.ensures.few

pub returns-clause-balance : goal.returns-clause-balance
returns-clause-balance g c = serve-balance _ _ _ (pool-is c.self.view_is) c.args.client _ _ c.moment-moment.ensures c.serves_new-serves.result _ c.serve_new-lent.ensures.answer c.serve_new-lent.ensures.becomes

pub invariant_of-self : goal.invariant_of-self
invariant_of-self g c =
    serve-lone _ _ _ (pool-is c.self.view_is) c.args.client _ _ c.moment-moment.ensures c.serves_new-serves.result _ c.serve_new-lent.ensures.answer c.serve_new-lent.ensures.becomes c.serve_new-lent.ensures.sound c.sound.ensures c.self.invariant.alone
    c.serves_new-serves.ensures.open c.serves_new-serves.ensures.none c.serves_new-serves.ensures.permit c.serves_new-serves.ensures.few _ c.self.invariant.lined
