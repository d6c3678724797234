use Rattle.std.proofs.Common.{◌++◌, length, refl, ap, ◌∙◌, arith}
use Rattle.sqlx_pool_marks.specs.declared.mark.Mark.TheVariants.{Ended}
use Rattle.sqlx_pool_lists.specs.PollSteps.{cancel_marks}
use Rattle.sqlx_family_steps.proofs.MarkLemmas.{so-made, so-long}
use Rattle.sqlx_pool_log.specs.PackedLog.{marks_of}
use Rattle.sqlx_family_steps.proofs.polling.cancel.Goals as goal

pub if_so-requires : goal.if_so-requires
if_so-requires g c =
    let r = c.requires.room in
    let b = c.cancel-ends.ensures.balance.paid in
    let e = ap length (so-made (cancel_marks c.args.ticket) (Ended c.args.ticket) refl refl c.cancel-ends.result) in
    let o = so-long c.cancel-ends.result (Ended c.args.ticket) in
    omega (arith, r, b, e, o)

pub returns-clause-marks : goal.returns-clause-marks
returns-clause-marks g c = c.if_so.ensures.marks ∙ ap (λ l. marks_of c.args.log.now ++ l) (so-made (cancel_marks c.args.ticket) (Ended c.args.ticket) refl refl c.cancel-ends.result)
