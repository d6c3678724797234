use Rattle.std.proofs.Common.{ap, ◌∙◌, arith}
use Rattle.sqlx_pool.proofs.StepLemmas.{begun}
use Rattle.sqlx_pool.proofs.locked.Locked.new.Goals as goal

pub invariant_of-locked : goal.invariant_of-locked
invariant_of-locked g c =
    begun g.C.Depth.levels g.L.Loans.max g.L.Loans.cuts c.in_ok-core.core.pool c.in_ok-core.ensures.stands (ap (λ o. o.max_connections) c.in_ok-core.ensures.options ∙ c.requires.max)
    c.in-Ok.log.items c.in-Ok.ensures.items c.args.connect c.new-books.result.0 c.new-books.ensures.books _ (let due = c.due.ensures in let capacity = c.in-Ok.ensures.room in omega (arith, due, capacity))
