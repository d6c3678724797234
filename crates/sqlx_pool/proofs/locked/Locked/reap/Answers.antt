use Rattle.std.proofs.Common.{arith}
use Rattle.sqlx_pool_core.specs.Logs.{moment_of}
use Rattle.sqlx_pool_lists.specs.MaintenanceSteps.{reap_marks}
use Rattle.sqlx_pool.proofs.LeavesLemmas.{leaves-along, reaped-leaves}
use Rattle.sqlx_pool.proofs.StepLemmas.{stepped, kept-books, reap-lends}
use Rattle.sqlx_pool.proofs.locked.Locked.reap.Goals as goal

pub invariant_of-self : goal.invariant_of-self
invariant_of-self g c =
    let core = c.self.inside.core.pool in
    let answer = c.reap-idle.result in
    let capacity = c.reap.ensures.capacity in
    let room = c.self.invariant.room in
    stepped c.self.invariant c.reap-idle.ensures.balance c.reap-idle.ensures.makes
    (leaves-along g.C.Depth.levels core _ _ c.reap-idle.ensures.becomes (reaped-leaves g.C.Depth.levels (moment_of core c.args.now) answer core))
    c.self.inside.connect c.self.inside.books (kept-books c.self.inside.books (reap_marks answer) (reap-lends answer))
    c.reap.new.log.items _ c.reap.ensures.marks (omega (arith, room, capacity))
