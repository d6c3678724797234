use Rattle.std.proofs.Common.{◌++◌, inl, ap, ◌∙◌, arith}
use Rattle.sqlx_pool.proofs.LeavesLemmas.{leaves-along, released-leaves}
use Rattle.sqlx_pool.proofs.StepLemmas.{stepped, detach-made, detach-lends}
use Rattle.sqlx_pool.proofs.locked.Locked.detach.Goals as goal

pub invariant_of-self : goal.invariant_of-self
invariant_of-self g c =
    let core = c.self.inside.core.pool in
    let answer = c.detach-ends.result in
    let none = detach-lends c.args.id answer in
    let owned = c.take_back_if.ensures.owned in
    let made = c.take_back_if.ensures.made in
    let capacity = c.if_so.ensures.capacity in
    let room = c.self.invariant.room in
    stepped c.self.invariant c.detach-ends.ensures.balance c.detach-ends.ensures.makes
    (leaves-along g.C.Depth.levels core _ _ c.detach-ends.ensures.becomes (released-leaves g.C.Depth.levels c.args.id answer core))
    c.self.inside.connect c.take_back_if.new.self (record { owned = omega (arith, none, owned); made_is = omega (arith, none, made); few = inl (omega (arith, none)) })
    c.if_so.new.log.items _ (c.if_so.ensures.marks ∙ ap (λ l. c.self.inside.log.items ++ l) (detach-made c.args.id answer)) (omega (arith, room, capacity))
