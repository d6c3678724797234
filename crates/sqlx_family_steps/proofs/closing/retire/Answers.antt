use Rattle.std.proofs.Common.{◌++◌, length, ap, ◌∙◌, arith}
use Rattle.sqlx_pool_lists.specs.MaintenanceSteps.{close_marks}
use Rattle.sqlx_pool_log.specs.PackedLog.{marks_of}
use Rattle.sqlx_family_steps.proofs.closing.retire.Goals as goal

pub close-requires : goal.close-requires
close-requires g c =
    let r = c.requires.room in
    let b = c.retire-idle.ensures.balance.paid in
    let e = ap (λ b. length (close_marks b c.retire-idle.result.items)) c.is_shut-shut.ensures in
    omega (arith, r, b, e)

pub returns-clause-marks : goal.returns-clause-marks
returns-clause-marks g c = c.close.ensures.marks ∙ ap (λ b. marks_of c.args.log.now ++ close_marks b c.retire-idle.result.items) c.is_shut-shut.ensures
