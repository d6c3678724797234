use Rattle.std.proofs.Common.{◌++◌, ◌∙◌, inl, ap, arith}
use Rattle.sqlx_pool_lists.specs.PollSteps.{phase_for}
use Rattle.sqlx_pool.proofs.LeavesLemmas.{leaves-along, start-leaves}
use Rattle.sqlx_pool_parts.proofs.MarkLemmas.{start-waited}
use Rattle.sqlx_pool.proofs.StepLemmas.{stepped, start-lends}
use Rattle.sqlx_pool.proofs.locked.Locked.start.Goals as goal

pub invariant_of-self : goal.invariant_of-self
invariant_of-self g c =
    let core = c.self.inside.core.pool in
    let new = c.start-start.new.self.pool in
    let answer = c.start-start.result in
    let lends = start-lends c.args.ticket (phase_for c.args.client c.args.ticket core.tickets) answer in
    let capacity = c.start.ensures.capacity in
    let room = c.self.invariant.room in
    stepped c.self.invariant c.start-start.ensures.balance c.start-start.ensures.makes
    (leaves-along g.C.Depth.levels core _ new c.start-start.ensures.becomes (start-leaves g.C.Depth.levels c.args.ticket _ answer core))
    c.self.inside.connect c.self.inside.books (record { owned = omega (arith, lends); made_is = omega (arith, lends); few = inl (omega (arith, lends)) })
    c.start.new.log.items _ (c.start.ensures.marks ∙ ap (λ l. c.self.inside.log.items ++ l) (start-waited c.args.ticket _ answer c.waits-waited.result c.waits-waited.ensures.own)) (omega (arith, room, capacity))
