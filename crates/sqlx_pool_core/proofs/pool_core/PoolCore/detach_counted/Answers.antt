use Rattle.sqlx_pool_core.proofs.Alone.{plain-alone, moves-alone}
use Rattle.std.proofs.Common.{rules, subst, refl, ◌∙◌}
use Rattle.sqlx_pool_lists.specs.Sound.{IsSound}
use Rattle.sqlx_pool_lists.specs.Balance.{one_if}
use Rattle.sqlx_pool_core.specs.ReturnSteps.{detach_marks}
use Rattle.sqlx_pool_core.proofs.AnswersAtMarks.{owner-at}
use Rattle.sqlx_pool_core.proofs.Looks.{looks-beside}
use Rattle.sqlx_pool_core.proofs.LonePools.{pool-is}
use Rattle.sqlx_pool_core.proofs.pool_core.PoolCore.detach_counted.Goals as goal

pub returns-clause-makes : goal.returns-clause-makes
returns-clause-makes g c =
    plain-alone _ _ _ (pool-is c.self.view_is) (λ core. detach_marks c.args.id c.detach-held.result) _ refl c.self.invariant.alone c.sound-2.ensures c.detach-held.ensures.stays c.detach-held.ensures.draws c.detach-held.ensures.makes

pub returns-clause-balance : goal.returns-clause-balance
returns-clause-balance g c = moves-alone _ _ _ (pool-is c.self.view_is) (λ core. detach_marks c.args.id c.detach-held.result) _ (one_if c.detach-held.result) 0 refl c.detach-held.ensures.balance

pub returns-clause-marks : goal.returns-clause-marks
returns-clause-marks g c = λ marks s.
    let sound : IsSound c.args.self.now.pool = subst IsSound (pool-is c.self.view_is) c.sound.ensures in
    (search rules) ∙ owner-at c.args.self.now.pool marks s sound c.args.client c.args.id

pub returns-clause-cost : goal.returns-clause-cost
returns-clause-cost g c =
    looks-beside c.self.inside.pool c.args.self.now c.detach-held.new.self c.self.inside.line c.serve.new.line _ _ c.self.view_is c.sound.ensures c.self.invariant.lined c.detach-held.ensures.draws.more_tickets
    (record { cost = c.serve.ensures.cost; once = c.serve.ensures.once; turns = c.serve.ensures.turns; moves = c.serve.ensures.moves; edge = c.serve.ensures.edge; lined = c.serve.ensures.lined; sound = c.serve.ensures.sound })
