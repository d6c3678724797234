use Rattle.std.proofs.Common.{ℕ, ◌++◌, length, ap, ◌∙◌, arith}
use Rattle.sqlx_pool_core.specs.ReturnSteps.{give_marks}
use Rattle.sqlx_pool_log.specs.PackedLog.{marks_of}
use Rattle.sqlx_family_steps.proofs.returning.give.Goals as goal

pub give-requires : goal.give-requires
give-requires g c =
    let r = c.requires.room in
    let b = c.give-given.ensures.balance.paid in
    let e = ap (λ (n : ℕ). length (give_marks c.args.lent.id n c.give-given.result)) c.moment-moment.ensures in
    omega (arith, r, b, e)

pub returns-clause-marks : goal.returns-clause-marks
returns-clause-marks g c = c.give.ensures.marks ∙ ap (λ (n : ℕ). marks_of c.args.log.now ++ give_marks c.args.lent.id n c.give-given.result) c.moment-moment.ensures
