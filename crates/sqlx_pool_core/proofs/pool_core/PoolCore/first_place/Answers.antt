use Rattle.sqlx_pool_core.proofs.Alone.{plain-alone, moves-alone}
use Rattle.std.proofs.Common.{rules, refl, ◌≡◌, ◌∙◌, max, []}
use Rattle.sqlx_pool_lists.specs.Balance.{place_room}
use Rattle.sqlx_pool_lists.specs.MaintenanceSteps.{has_place}
use Rattle.sqlx_pool_core.proofs.MaintenanceAtMarks.{place-at}
use Rattle.sqlx_pool_core.proofs.pool_core.PoolCore.first_place.Goals as goal
use Rattle.sqlx_pool_core.proofs.Alone.{alone-step}
use Rattle.sqlx_pool_core.proofs.LonePools.{pool-is}
use Rattle.sqlx_pool_core.proofs.LineSteps.{place-lined}

pub returns-clause-makes : goal.returns-clause-makes
returns-clause-makes g c =
    plain-alone _ _ _ (pool-is c.self.view_is) (λ core. []) _ refl c.self.invariant.alone c.sound.ensures c.hold_place-held.ensures.stays c.hold_place-held.ensures.draws c.hold_place-held.ensures.makes

pub returns-clause-balance : goal.returns-clause-balance
returns-clause-balance g c = moves-alone _ _ _ (pool-is c.self.view_is) (λ core. []) _ 0 (place_room c.hold_place-held.result) refl c.hold_place-held.ensures.balance

pub returns-clause-marks : goal.returns-clause-marks
returns-clause-marks g c = λ marks s.
    let answer : c.hold_place-held.result ≡ has_place (max c.args.self.now.pool.options.min_connections 1) c.args.self.now.pool = search rules in
    answer ∙ place-at c.args.self.now.pool marks s (max c.args.self.now.pool.options.min_connections 1)

pub invariant_of-self : goal.invariant_of-self
invariant_of-self g c = record {
  alone = alone-step _ _ _ c.self.invariant.alone c.hold_place-held.ensures.stays c.hold_place-held.ensures.draws c.sound.ensures;
  lined = place-lined _ _ _ c.may_pass-passes.result _ c.hold_place-held.result c.self.invariant.lined c.may_pass-passes.ensures c.hold_place-held.ensures.answer c.hold_place-held.ensures.becomes;
}
