use Rattle.std.proofs.Common.{◌∙◌, ap, arith, ◌∷◌, [], ◌++◌}
use Rattle.sqlx_pool_parts.specs.State.{no_start}
use Rattle.sqlx_family_pool.proofs.PoolLemmas.{child-added}
use Rattle.sqlx_family_pool.proofs.locked.LockedFamily.child.Goals as goal

pub invariant_of-self-2 : goal.invariant_of-self-2
invariant_of-self-2 g c =
    let some = c.in-Ok-with_capacity.ensures.room in
    rw c.in_ok-name.ensures.becomes
    (child-added g.C.Depth.levels g.L.Loans.max g.L.Loans.cuts c.self.inside.connect c.self.inside.books c.self.inside.family c.self.inside.logs.items c.self.invariant c.bounds.ensures c.args.options c.requires.fits c.in-Ok-with_capacity.log c.in-Ok-with_capacity.ensures.items (omega (arith, some))
    c.push_reserved.new.self.items (c.push_reserved.ensures.items ∙ ap (λ l. l ++ c.in-Ok-with_capacity.log ∷ []) c.in-Ok.ensures.items)
    c.push_reserved-2.new.self.items (c.push_reserved-2.ensures.items ∙ ap (λ l. l ++ no_start ∷ []) c.in-Ok-reserve.ensures.items))
