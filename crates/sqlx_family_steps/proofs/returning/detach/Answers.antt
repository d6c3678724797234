use Rattle.std.proofs.Common.{◌++◌, length, refl, ap, ◌∙◌, arith}
use Rattle.sqlx_pool_marks.specs.declared.mark.Mark.TheVariants.{Detached}
use Rattle.sqlx_pool_core.specs.ReturnSteps.{detach_marks}
use Rattle.sqlx_family_steps.proofs.MarkLemmas.{so-made, so-long}
use Rattle.sqlx_pool_log.specs.PackedLog.{marks_of}
use Rattle.sqlx_family_steps.proofs.returning.detach.Goals as goal

pub if_so-requires : goal.if_so-requires
if_so-requires g c =
    let r = c.requires.room in
    let b = c.detach-ends.ensures.balance.paid in
    let e = ap length (so-made (detach_marks c.args.id) (Detached c.args.id) refl refl c.detach-ends.result) in
    let o = so-long c.detach-ends.result (Detached c.args.id) in
    omega (arith, r, b, e, o)

pub returns-clause-marks : goal.returns-clause-marks
returns-clause-marks g c = c.if_so.ensures.marks ∙ ap (λ l. marks_of c.args.log.now ++ l) (so-made (detach_marks c.args.id) (Detached c.args.id) refl refl c.detach-ends.result)
