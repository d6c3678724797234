use Rattle.std.proofs.Common.{◌∙◌, Ok, ap, subst}
use Rattle.sqlx_pool_history.proofs.Prefixes.{prefix_trans}
use Rattle.sqlx_pool_history.proofs.Showing.{showed_sooner}
use Rattle.sqlx_pool.proofs.UpkeepLemmas.{unfilled-weaker}
use Rattle.sqlx_pool.specs.Calls as call
use Rattle.sqlx_pool.specs.Seen.{HasSeen}
use Rattle.sqlx_pool.proofs.pool.PoolOf.open_one.Goals as goal

pub returns-in-Ok-true-clause-unfilled : goal.returns-in-Ok-true-clause-unfilled
returns-in-Ok-true-clause-unfilled g c =
    λ tells. unfilled-weaker _ _ _ c.fill_place.result (λ saw. showed_sooner c.args.me.now c.minimum_place-place.new.me c.fill_place.new.me _ c.minimum_place-place.ensures.later saw) (c.fill_place.ensures.unfilled tells)

pub returns-in-Ok-true-clause-later : goal.returns-in-Ok-true-clause-later
returns-in-Ok-true-clause-later g c = prefix_trans c.args.me.now c.minimum_place-place.new.me c.fill_place.new.me c.minimum_place-place.ensures.later c.fill_place.ensures.later

pub returns-in-Ok-false-clause-unfilled : goal.returns-in-Ok-false-clause-unfilled
returns-in-Ok-false-clause-unfilled g c =
    λ tells. subst (λ s. HasSeen g.S.PoolSteps.stands c.args.me.now c.minimum_place-place.new.me (g.S.PoolSteps.tells (call.IsFilled s.name))) c.deref.ensures (c.minimum_place-place.ensures.full (c.in-Ok-false.is ∙ ap Ok c.in-Ok-false.field-0-test))
