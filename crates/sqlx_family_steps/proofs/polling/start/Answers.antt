use Rattle.std.proofs.Common.{◌++◌, length, ap, ◌∙◌, arith}
use Rattle.sqlx_pool_lists.specs.PollSteps.{phase_for}
use Rattle.sqlx_family.specs.Pools.{pool_in}
use Rattle.sqlx_pool_parts.proofs.MarkLemmas.{start-waited}
use Rattle.sqlx_pool_log.specs.PackedLog.{marks_of}
use Rattle.sqlx_family_steps.proofs.polling.start.Goals as goal

pub start-requires : goal.start-requires
start-requires g c =
    let r = c.requires.room in
    let b = c.start-start.ensures.balance.paid in
    let e = ap length (start-waited c.args.ticket (phase_for c.args.client c.args.ticket (pool_in c.args.pool c.args.family.now).tickets) c.start-start.result c.waits-waited.result c.waits-waited.ensures) in
    omega (arith, r, b, e)

pub returns-clause-marks : goal.returns-clause-marks
returns-clause-marks g c =
    c.start.ensures.marks
    ∙ ap (λ l. marks_of c.args.log.now ++ l) (start-waited c.args.ticket (phase_for c.args.client c.args.ticket (pool_in c.args.pool c.args.family.now).tickets) c.start-start.result c.waits-waited.result c.waits-waited.ensures)
