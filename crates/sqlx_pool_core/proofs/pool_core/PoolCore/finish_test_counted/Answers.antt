use Rattle.sqlx_pool_core.proofs.Alone.{plain-alone, moves-alone}
use Rattle.std.proofs.Common.{rules, refl, ◌≡◌, ◌∙◌, ap, Bool}
use Rattle.sqlx_pool_lists.specs.PollSteps.{phase_for, judged, tested_at, may_test_next, test_answer, test_marks}
use Rattle.sqlx_pool_lists.specs.Core.{Core}
use Rattle.sqlx_pool_core.proofs.pool_core.PoolCore.finish_test_counted.Goals as goal
use Rattle.sqlx_pool_core.proofs.Looks.{looks-beside}
use Rattle.sqlx_pool_core.proofs.LonePools.{pool-is}
use Rattle.sqlx_pool_core.proofs.LonePools.{edge-left}
use Rattle.sqlx_pool_core.proofs.LineSteps.{test-lined}
use Rattle.sqlx_pool_core.proofs.LineSteps.{nearly-from, test-beside}

pub returns-clause-makes : goal.returns-clause-makes
returns-clause-makes g c =
    plain-alone _ _ _ (pool-is c.self.view_is) (λ core. test_marks c.args.client c.args.ticket (judged c.args.verdict) c.finish_test-after.result) _ refl c.self.invariant.alone c.sound-2.ensures c.finish_test-after.ensures.stays c.finish_test-after.ensures.draws c.finish_test-after.ensures.makes

pub returns-clause-balance : goal.returns-clause-balance
returns-clause-balance g c = moves-alone _ _ _ (pool-is c.self.view_is) (λ core. test_marks c.args.client c.args.ticket (judged c.args.verdict) c.finish_test-after.result) _ 0 0 refl c.finish_test-after.ensures.balance

pub returns-clause-marks : goal.returns-clause-marks
returns-clause-marks g c = λ marks s.
    let answer : c.finish_test-after.result ≡ test_answer (tested_at (judged c.args.verdict) (phase_for c.args.client c.args.ticket c.args.self.now.pool.tickets)) c.args.self.now.pool.shut (may_test_next c.args.self.now.pool.options.idle_tries (phase_for c.args.client c.args.ticket c.args.self.now.pool.tickets)) c.args.self.now.pool.idle c.args.verdict = search rules in
    answer ∙ ap (λ (b : Bool). test_answer (tested_at (judged c.args.verdict) (phase_for c.args.client c.args.ticket c.args.self.now.pool.tickets)) b (may_test_next c.args.self.now.pool.options.idle_tries (phase_for c.args.client c.args.ticket c.args.self.now.pool.tickets)) c.args.self.now.pool.idle c.args.verdict) s.shut

pub serve-requires : goal.serve-requires
serve-requires g c = record {
  near =
      nearly-from _ _ _ c.self.invariant.lined
      (test-beside _ _ c.sound.ensures c.args.client c.args.ticket c.args.verdict _ _ c.finish_test-after.result c.finish_test-after.ensures.answer c.finish_test-after.ensures.becomes c.finish_test-after.ensures.balance);
}

pub returns-clause-cost : goal.returns-clause-cost
returns-clause-cost g c =
    looks-beside c.self.inside.pool c.args.self.now c.finish_test-after.new.self c.self.inside.line c.serve.new.line _ _ c.self.view_is c.sound.ensures c.self.invariant.lined c.finish_test-after.ensures.draws.more_tickets
    (record { cost = c.serve.ensures.cost; once = c.serve.ensures.once; turns = c.serve.ensures.turns; moves = c.serve.ensures.moves; edge = c.serve.ensures.edge; lined = c.serve.ensures.lined; sound = c.serve.ensures.sound })

pub returns-clause-open : goal.returns-clause-open
returns-clause-open g c = λ open_is.
    edge-left c.args.self.now c.self.inside.pool c.finish_test-after.new.self c.self.inside.line c.self.inside.line c.serve.new.line c.self.view_is refl refl
    (c.serve.ensures.still
    (test-lined _ _ c.sound.ensures c.args.client c.args.ticket c.self.inside.line c.args.verdict c.self.inside.pool.closed _ c.finish_test-after.result c.self.invariant.lined c.finish_test-after.ensures.answer c.finish_test-after.ensures.becomes c.finish_test-after.ensures.balance
    (c.self.invariant.alone.closed ∙ ap (λ (n : Core _). n.shut) (pool-is c.self.view_is) ∙ open_is)))
