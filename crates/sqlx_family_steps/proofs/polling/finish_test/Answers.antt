use Rattle.std.proofs.Common.{ℕ, ◌++◌, length, ap, ◌∙◌, arith}
use Rattle.sqlx_pool_lists.specs.PollSteps.{test_marks}
use Rattle.sqlx_pool_log.specs.PackedLog.{marks_of}
use Rattle.sqlx_family_steps.proofs.polling.finish_test.Goals as goal

pub test-requires : goal.test-requires
test-requires g c =
    let r = c.requires.room in
    let b = c.finish_test-after.ensures.balance.paid in
    let e = ap (λ (n : ℕ). length (test_marks c.args.client c.args.ticket n c.finish_test-after.result)) c.judged_of-conn.ensures in
    omega (arith, r, b, e)

pub returns-clause-marks : goal.returns-clause-marks
returns-clause-marks g c = c.test.ensures.marks ∙ ap (λ (n : ℕ). marks_of c.args.log.now ++ test_marks c.args.client c.args.ticket n c.finish_test-after.result) c.judged_of-conn.ensures
