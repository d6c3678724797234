use Rattle.std.proofs.Common.{refl, subst}
use Rattle.sqlx_pool.specs.Calls as call
use Rattle.sqlx_pool.specs.Seen.{HasSeen}
use Rattle.sqlx_pool.proofs.pool.PoolOf.keep_new.Goals as goal

pub returns-in-Some-clause-unfilled : goal.returns-in-Some-clause-unfilled
returns-in-Some-clause-unfilled g c =
    subst (λ s. HasSeen g.S.PoolSteps.stands c.args.me.now c.minimum_done-back.new.me (g.S.PoolSteps.tells (call.IsFilled s.name))) c.deref.ensures (c.in-Some.ensures.back refl)
