use Rattle.std.proofs.Common.{Bool, true, false, refl, sym, ap, subst, ◌≡◌, ◌∙◌}
use Rattle.sqlx_pool_places.specs.Line.{TicketLine}
use Rattle.sqlx_pool_lists.specs.Core.{Core}
use Rattle.sqlx_pool_core.specs.KeptLine.{IsLined}
use Rattle.sqlx_pool_lists.specs.MaintenanceSteps.{close_answer, close_marks, closed_from}
use Rattle.sqlx_pool_core.proofs.Alone.{alone-closed, close-alone, moves-alone}
use Rattle.sqlx_pool_core.proofs.MaintenanceAtMarks.{close-at}
use Rattle.sqlx_pool_core.proofs.LonePools.{pool-is}
use Rattle.sqlx_pool_core.proofs.pool_core.PoolCore.close.Goals as goal

-- a close leaves the line
lined_closed : {C : Type 0} (core new : Core C) (line : TicketLine) (shut : Bool) → IsLined core line → new ≡ closed_from shut core → IsLined new line
lined_closed {C} core new line true l e = subst (λ (c : Core C). IsLined c line) (sym e) l
lined_closed {C} core new line false l e = subst (λ (c : Core C). IsLined c line) (sym e) (record { numbers = l.numbers; served = l.served; edge = l.edge; few_moves = l.few_moves })

pub invariant_of-self : goal.invariant_of-self
invariant_of-self g c = record {
  alone = alone-closed _ _ _ c.self.invariant.alone c.close-idle.ensures.becomes c.close-idle.ensures.draws c.sound.ensures;
  lined = lined_closed _ _ _ c.self.inside.pool.shut c.self.invariant.lined c.close-idle.ensures.becomes;
}

pub returns-clause-answer : goal.returns-clause-answer
returns-clause-answer g c = c.close-idle.ensures.answer ∙ ap (λ (core : Core _). close_answer core.shut core.idle) (pool-is c.self.view_is)

pub returns-clause-becomes : goal.returns-clause-becomes
returns-clause-becomes g c = c.close-idle.ensures.becomes ∙ ap (λ (core : Core _). closed_from core.shut core) (pool-is c.self.view_is)

pub returns-clause-closed : goal.returns-clause-closed
returns-clause-closed g c = c.close-idle.ensures.shut

pub returns-clause-makes : goal.returns-clause-makes
returns-clause-makes g c =
    close-alone _ _ _ (pool-is c.self.view_is) (λ core. close_marks core.shut c.close-idle.result.items) _ refl c.self.invariant.alone c.sound.ensures c.close-idle.ensures.becomes c.close-idle.ensures.draws c.close-idle.ensures.makes

pub returns-clause-balance : goal.returns-clause-balance
returns-clause-balance g c = moves-alone _ _ _ (pool-is c.self.view_is) (λ core. close_marks core.shut c.close-idle.result.items) _ 0 0 refl c.close-idle.ensures.balance

pub returns-clause-marks : goal.returns-clause-marks
returns-clause-marks g c = λ marks s. close-at c.args.self.now.pool marks s c.close-idle.result.items (returns-clause-answer g c)
