use Rattle.sqlx_pool_core.proofs.Alone.{plain-alone, moves-alone}
use Rattle.std.proofs.Common.{rules, subst, refl, ◌∙◌}
use Rattle.sqlx_pool_lists.specs.Sound.{IsSound}
use Rattle.sqlx_pool_lists.specs.Balance.{one_if}
use Rattle.sqlx_pool_core.specs.ReturnSteps.{leak_marks}
use Rattle.sqlx_pool_core.proofs.AnswersAtMarks.{owner-at}
use Rattle.sqlx_pool_core.proofs.LonePools.{pool-is}
use Rattle.sqlx_pool_core.proofs.pool_core.PoolCore.leak.Goals as goal

pub returns-clause-makes : goal.returns-clause-makes
returns-clause-makes g c =
    plain-alone _ _ _ (pool-is c.self.view_is) (λ core. leak_marks c.args.id c.leak-held.result) _ refl c.self.invariant.alone c.sound-2.ensures c.leak-held.ensures.stays c.leak-held.ensures.draws c.leak-held.ensures.makes

pub returns-clause-balance : goal.returns-clause-balance
returns-clause-balance g c = moves-alone _ _ _ (pool-is c.self.view_is) (λ core. leak_marks c.args.id c.leak-held.result) _ (one_if c.leak-held.result) 0 refl c.leak-held.ensures.balance

pub returns-clause-marks : goal.returns-clause-marks
returns-clause-marks g c = λ marks s.
    let sound : IsSound c.args.self.now.pool = subst IsSound (pool-is c.self.view_is) c.sound.ensures in
    (search rules) ∙ owner-at c.args.self.now.pool marks s sound c.args.client c.args.id
