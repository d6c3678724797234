use Rattle.std.proofs.Common.{◌++◌, not, ◌&&◌, is_some, length, ap, ◌∙◌, arith}
use Rattle.sqlx_pool_core.specs.Logs.{moment_of}
use Rattle.sqlx_family.specs.Pools.{pool_in}
use Rattle.sqlx_pool_parts.proofs.MarkLemmas.{done-made}
use Rattle.sqlx_family_steps.proofs.MarkLemmas.{opened-long}
use Rattle.sqlx_pool_log.specs.PackedLog.{marks_of}
use Rattle.sqlx_family_steps.proofs.upkeep.minimum_done.Goals as goal

pub open_if-requires : goal.open_if-requires
open_if-requires g c =
    let core = pool_in c.args.pool c.args.family.now in
    let opens = c.opens-opens.ensures ∙ ap (λ b. not b && is_some c.args.raw) c.is_closed.ensures in
    let conn = ap (λ n. n.next_conn) c.numbers-conn.ensures in
    let r = c.requires.room in
    let b = c.minimum_done-back.ensures.balance.paid in
    let e = ap length (done-made core.closed c.args.raw c.opens-opens.result opens _ core.next_conn conn _ (moment_of core c.args.now) c.moment-moment.ensures) in
    let o = opened-long c.opens-opens.result c.numbers-conn.result.next_conn c.moment-moment.result.0 in
    omega (arith, r, b, e, o)

pub returns-clause-marks : goal.returns-clause-marks
returns-clause-marks g c =
    let core = pool_in c.args.pool c.args.family.now in
    let opens = c.opens-opens.ensures ∙ ap (λ b. not b && is_some c.args.raw) c.is_closed.ensures in
    let conn = ap (λ n. n.next_conn) c.numbers-conn.ensures in
    c.open_if.ensures.marks ∙ ap (λ l. marks_of c.args.log.now ++ l) (done-made core.closed c.args.raw c.opens-opens.result opens _ core.next_conn conn _ (moment_of core c.args.now) c.moment-moment.ensures)
