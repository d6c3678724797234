use Rattle.std.proofs.Common.{◌++◌, ap, ◌∙◌, arith}
use Rattle.sqlx_pool_lists.specs.MaintenanceSteps.{close_marks}
use Rattle.sqlx_pool.proofs.LeavesLemmas.{leaves-along, closed-leaves}
use Rattle.sqlx_pool.proofs.StepLemmas.{stepped, kept-books, close-lends}
use Rattle.sqlx_pool.proofs.locked.Locked.close.Goals as goal

pub invariant_of-self : goal.invariant_of-self
invariant_of-self g c =
    let core = c.self.inside.core.pool in
    let idle = c.close-idle.result.items in
    let capacity = c.close.ensures.capacity in
    let room = c.self.invariant.room in
    stepped c.self.invariant c.close-idle.ensures.balance c.close-idle.ensures.makes
    (leaves-along g.C.Depth.levels core _ _ c.close-idle.ensures.becomes (closed-leaves g.C.Depth.levels core.shut core))
    c.self.inside.connect c.self.inside.books (kept-books c.self.inside.books (close_marks core.shut idle) (close-lends core.shut idle))
    c.close.new.log.items _ (c.close.ensures.marks ∙ ap (λ b. c.self.inside.log.items ++ close_marks b idle) c.is_closed-shut.ensures.own) (omega (arith, room, capacity))
