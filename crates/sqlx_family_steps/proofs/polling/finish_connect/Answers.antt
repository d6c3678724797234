use Rattle.std.proofs.Common.{ℕ, ◌++◌, length, ap, ◌∙◌, arith}
use Rattle.sqlx_pool_lists.specs.PollSteps.{connect_marks}
use Rattle.sqlx_pool_log.specs.PackedLog.{marks_of}
use Rattle.sqlx_family_steps.proofs.polling.finish_connect.Goals as goal

pub connect-requires : goal.connect-requires
connect-requires g c =
    let r = c.requires.room in
    let b = c.finish_connect-after.ensures.balance.paid in
    let e = ap (λ (n : ℕ). length (connect_marks c.args.client c.args.ticket n c.finish_connect-after.result)) c.moment-moment.ensures in
    omega (arith, r, b, e)

pub returns-clause-marks : goal.returns-clause-marks
returns-clause-marks g c = c.connect.ensures.marks ∙ ap (λ (n : ℕ). marks_of c.args.log.now ++ connect_marks c.args.client c.args.ticket n c.finish_connect-after.result) c.moment-moment.ensures
