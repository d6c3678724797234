use Rattle.std.proofs.Common.{length}
use Rattle.sqlx_query_rows.proofs.MappingLemmas.{After}
use Rattle.sqlx_query_rows.proofs.map_stream.MappedRowList.all_rows.Given as goal

abbrev pub invariant-loop-item : goal.invariant-loop-item
invariant-loop-item g l = g.F.Mapper.ready l.stream.mapper × After g.F.Mapper.maps l.fn.self.rows l.fn.self.mapper l.all.items l.stream.rows l.stream.mapper

abbrev pub decreases-loop-item : goal.decreases-loop-item
decreases-loop-item g l = length l.stream.rows
