use Rattle.std.proofs.Common.{◌++◌, ap, ◌∙◌, arith}
use Rattle.sqlx_pool_lists.specs.PollSteps.{cancel_marks}
use Rattle.sqlx_pool.proofs.LeavesLemmas.{leaves-along, cancel-leaves}
use Rattle.sqlx_pool.proofs.StepLemmas.{stepped, kept-books, cancel-made, cancel-lends}
use Rattle.sqlx_pool.proofs.locked.Locked.cancel.Goals as goal

pub invariant_of-self : goal.invariant_of-self
invariant_of-self g c =
    let core = c.self.inside.core.pool in
    let answer = c.cancel-ends.result in
    let capacity = c.if_so.ensures.capacity in
    let room = c.self.invariant.room in
    stepped c.self.invariant c.cancel-ends.ensures.balance c.cancel-ends.ensures.makes
    (leaves-along g.C.Depth.levels core _ _ c.cancel-ends.ensures.becomes (cancel-leaves g.C.Depth.levels c.args.ticket answer core))
    c.self.inside.connect c.self.inside.books (kept-books c.self.inside.books (cancel_marks c.args.ticket answer) (cancel-lends c.args.ticket answer))
    c.if_so.new.log.items _ (c.if_so.ensures.marks ∙ ap (λ l. c.self.inside.log.items ++ l) (cancel-made c.args.ticket answer)) (omega (arith, room, capacity))
