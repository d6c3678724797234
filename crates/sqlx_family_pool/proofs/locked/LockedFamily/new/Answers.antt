use Rattle.std.proofs.Common.{◌∷◌, [], ◌++◌, arith, ap, ◌∙◌}
use Rattle.sqlx_pool_parts.specs.State.{no_start}
use Rattle.sqlx_family_pool.proofs.PoolLemmas.{begun}
use Rattle.sqlx_family_pool.proofs.locked.LockedFamily.new.Goals as goal

pub invariant_of-locked : goal.invariant_of-locked
invariant_of-locked g c =
    let due = c.due.ensures in
    let capacity = c.in-Ok-with_capacity-2.ensures.room in
    begun g.C.Depth.levels g.L.Loans.max g.L.Loans.cuts c.args.connect c.new-books.result.0 c.in_ok-family.family c.args.options c.in_ok-family.ensures c.requires.max c.new-books.ensures.books
    c.push_reserved.new.self.items c.in-Ok-with_capacity-2.log (c.push_reserved.ensures.items ∙ ap (λ l. l ++ c.in-Ok-with_capacity-2.log ∷ []) c.in-Ok.ensures.items) c.in-Ok-with_capacity-2.ensures.items
    c.push_reserved-2.new.self.items (c.push_reserved-2.ensures.items ∙ ap (λ l. l ++ no_start ∷ []) c.in-Ok-with_capacity.ensures.items) (omega (arith, due, capacity))
