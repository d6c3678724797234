use Rattle.sqlx_pool_core.proofs.Alone.{plain-alone, moves-alone}
use Rattle.std.proofs.Common.{rules, refl, ◌∙◌, sym, subst}
use Rattle.sqlx_pool_lists.specs.PollSteps.{cancel_marks}
use Rattle.sqlx_pool_core.proofs.AnswersAtMarks.{cancel-at}
use Rattle.sqlx_pool_core.proofs.pool_core.PoolCore.cancel_counted.Goals as goal
use Rattle.sqlx_pool_core.specs.KeptLine.{IsNearlyLined}
use Rattle.sqlx_pool_core.proofs.LineSteps.{cancel-nearly}
use Rattle.sqlx_pool_core.proofs.LonePools.{pool-is}
use Rattle.sqlx_pool_core.proofs.Looks.{looks-without}

pub returns-clause-makes : goal.returns-clause-makes
returns-clause-makes g c =
    plain-alone _ _ _ (pool-is c.self.view_is) (λ core. cancel_marks c.args.ticket c.cancel-done.result) _ refl c.self.invariant.alone c.sound-2.ensures c.cancel-done.ensures.stays c.cancel-done.ensures.draws c.cancel-done.ensures.makes

pub returns-clause-balance : goal.returns-clause-balance
returns-clause-balance g c = moves-alone _ _ _ (pool-is c.self.view_is) (λ core. cancel_marks c.args.ticket c.cancel-done.result) _ 0 0 refl c.cancel-done.ensures.balance

pub returns-clause-marks : goal.returns-clause-marks
returns-clause-marks g c = λ marks s. (search rules) ∙ cancel-at c.args.self.now.pool marks s c.args.client c.args.ticket

pub serve-requires : goal.serve-requires
serve-requires g c = record {
  near =
      subst (IsNearlyLined c.cancel-done.new.self) (sym c.take_out.ensures.becomes)
      (cancel-nearly _ _ _ c.args.ticket c.cancel-done.result c.sound.ensures c.self.invariant.lined c.cancel-done.ensures.becomes c.cancel-done.ensures.balance);
}

pub returns-clause-cost : goal.returns-clause-cost
returns-clause-cost g c =
    looks-without c.self.inside.pool c.args.self.now c.cancel-done.new.self c.self.inside.line c.take_out.new.line c.serve.new.line c.args.ticket c.cancel-done.result _ _ _ c.self.view_is c.sound.ensures c.self.invariant.lined c.take_out.ensures.becomes
    c.cancel-done.ensures.draws.more_tickets c.take_out.ensures.cost
    (record { cost = c.serve.ensures.cost; once = c.serve.ensures.once; turns = c.serve.ensures.turns; moves = c.serve.ensures.moves; edge = c.serve.ensures.edge; lined = c.serve.ensures.lined; sound = c.serve.ensures.sound })
