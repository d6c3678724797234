use Rattle.sqlx_query_rows.proofs.MappingLemmas.{all_made, all_refused}
use Rattle.sqlx_query_rows.proofs.map_stream.MappedRowList.all_rows.Goals as goal

pub returns-in-Err : goal.returns-in-Err
returns-in-Err g c = all_refused (λ all. all.items) g.F.Mapper.maps _ _ c.loop-item.all.items _ _ _ _ _ c.loop-item.invariant.1 (rw c.in-Err.is at c.in-Some.ensures.steps)

pub returns : goal.returns
returns g c = all_made (λ all. all.items) g.F.Mapper.maps _ _ c.loop-item.all _ _ _ _ c.loop-item.invariant.1 c.in_default.ensures.steps
