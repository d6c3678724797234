use Rattle.sqlx_query.proofs.DraftLemmas.{SoFar}
use Rattle.sqlx_query_drafts.specs.Tuples.{Wrote}
use Rattle.sqlx_query.proofs.builder.QueryBuilder.write_tuples.Given as goal

abbrev pub invariant-loop-item : goal.invariant-loop-item
invariant-loop-item g l =
    (goal.iterator-loop-item g).can_next l.item-iterator
    × (goal.iterator-loop-item g).is_finite l.item-iterator
    × goal.F-IsAlwaysCallable g l.push_tuple
    × SoFar g.DB.ArgumentBuffer.ArgumentList.count g.DB.ArgumentBuffer.ArgumentList.first (Wrote g.DB.ArgumentBuffer.ArgumentList.count g.DB.ArgumentBuffer.ArgumentList.first g.DB.Arguments.Arguments.buffered (λ row. row.now.parts) (goal.F-step g)) l.fn.push_tuple l.fn.self l.yielded l.later l.push_tuple l.self
