use Rattle.std.proofs.Common.{◌∙◌}
use Rattle.sqlx_pool_lists.specs.PollSteps.{phase_for, may_test_next, test_answer}
use Rattle.sqlx_pool_core.proofs.pool_core.PoolCore.test_ended.Goals as goal

pub returns-clause-answer : goal.returns-clause-answer
returns-clause-answer g c =
    c.finish_test.ensures.answer
    ∙ (λ i. test_answer (c.requires.tested i) (c.requires.open i) (may_test_next c.args.self.now.pool.options.idle_tries (phase_for c.args.client c.args.ticket c.args.self.now.pool.tickets)) c.args.self.now.pool.idle c.args.verdict)
