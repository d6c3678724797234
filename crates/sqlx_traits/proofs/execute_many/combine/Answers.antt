use Rattle.sqlx_traits.proofs.execute_many.combine.Goals as goal

pub loop-item-preserved : goal.loop-item-preserved
loop-item-preserved g c = cc (rw (c.in-Some.ensures.steps, c.in-Ok.is) at c.loop-item.invariant)
