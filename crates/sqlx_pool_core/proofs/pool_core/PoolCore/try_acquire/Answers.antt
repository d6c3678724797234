use Rattle.sqlx_pool_core.proofs.Alone.{try-alone, moves-alone}
use Rattle.std.proofs.Common.{rules, refl, ◌≡◌, ◌∙◌, ap, option_map}
use Rattle.sqlx_pool_lists.specs.Core.{waiting, free}
use Rattle.sqlx_pool_marks.specs.EventTable.{may_pass}
use Rattle.sqlx_pool_core.specs.Answers.{lent_conn}
use Rattle.sqlx_pool_lists.specs.Balance.{try_room}
use Rattle.sqlx_pool_lists.specs.PollSteps.{try_marks, try_lent}
use Rattle.sqlx_pool_core.proofs.AnswersAtMarks.{try-at}
use Rattle.sqlx_pool_core.proofs.pool_core.PoolCore.try_acquire.Goals as goal
use Rattle.sqlx_pool_core.proofs.Alone.{alone-step}
use Rattle.sqlx_pool_core.proofs.LonePools.{pool-is}
use Rattle.sqlx_pool_core.proofs.LineSteps.{try-lined}

pub returns-clause-makes : goal.returns-clause-makes
returns-clause-makes g c =
    try-alone _ _ _ (pool-is c.self.view_is) c.may_pass-passes.result (λ core. try_marks c.args.client c.try_acquire-lent.result) _ refl c.self.invariant.alone c.sound.ensures c.try_acquire-lent.ensures.stays c.may_pass-passes.ensures c.try_acquire-lent.ensures.draws c.try_acquire-lent.ensures.makes

pub returns-clause-balance : goal.returns-clause-balance
returns-clause-balance g c = moves-alone _ _ _ (pool-is c.self.view_is) (λ core. try_marks c.args.client c.try_acquire-lent.result) _ 0 (try_room c.try_acquire-lent.result) refl c.try_acquire-lent.ensures.balance

pub returns-clause-marks : goal.returns-clause-marks
returns-clause-marks g c = λ marks s.
    let answer : c.try_acquire-lent.result ≡ try_lent (may_pass c.args.self.now.pool.shut (waiting c.args.self.now.pool.tickets) (free c.args.self.now.pool)) c.args.self.now.pool.idle = search rules in
    ap (option_map lent_conn) answer ∙ try-at c.args.self.now.pool marks s

pub invariant_of-self : goal.invariant_of-self
invariant_of-self g c = record {
  alone = alone-step _ _ _ c.self.invariant.alone c.try_acquire-lent.ensures.stays c.try_acquire-lent.ensures.draws c.sound.ensures;
  lined = try-lined _ _ _ c.may_pass-passes.result _ _ c.try_acquire-lent.result c.self.invariant.lined c.may_pass-passes.ensures c.try_acquire-lent.ensures.answer c.try_acquire-lent.ensures.becomes c.try_acquire-lent.ensures.balance;
}
