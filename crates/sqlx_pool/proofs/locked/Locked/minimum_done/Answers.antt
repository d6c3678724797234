use Rattle.std.proofs.Common.{◌++◌, not, ◌&&◌, is_some, ap, ◌∙◌, arith}
use Rattle.sqlx_pool_core.specs.Logs.{moment_of}
use Rattle.sqlx_pool_lists.specs.MaintenanceSteps.{done_marks}
use Rattle.sqlx_pool.proofs.LeavesLemmas.{leaves-along, done-leaves}
use Rattle.sqlx_pool_parts.proofs.MarkLemmas.{done-made}
use Rattle.sqlx_pool.proofs.StepLemmas.{stepped, kept-books, done-lends}
use Rattle.sqlx_pool.proofs.locked.Locked.minimum_done.Goals as goal

pub invariant_of-self : goal.invariant_of-self
invariant_of-self g c =
    let core = c.self.inside.core.pool in
    let moment = moment_of core c.args.now in
    let room = c.self.invariant.room in
    let capacity = c.open_if.ensures.capacity in
    let opens = c.opens-opens.ensures ∙ ap (λ b. not b && is_some c.args.raw) c.is_closed-shut.ensures.own in
    let conn = ap (λ n. n.next_conn) c.numbers-conn.ensures.own in
    stepped c.self.invariant c.minimum_done-back.ensures.balance c.minimum_done-back.ensures.makes
    (leaves-along g.C.Depth.levels core _ _ c.minimum_done-back.ensures.becomes (done-leaves g.C.Depth.levels core.shut moment c.args.raw core c.requires.flat))
    c.self.inside.connect c.self.inside.books (kept-books c.self.inside.books (done_marks core.shut core.next_conn moment c.args.raw) (done-lends core.shut core.next_conn moment c.args.raw))
    c.open_if.new.log.items _ (c.open_if.ensures.marks ∙ ap (λ l. c.self.inside.log.items ++ l) (done-made core.shut c.args.raw c.opens-opens.result opens _ core.next_conn conn _ moment c.moment-moment.ensures.moment)) (omega (arith, room, capacity))
