use Rattle.sqlx_query.proofs.RowLemmas.{row_written}
use Rattle.sqlx_query.proofs.builder.QueryBuilder.fill_tuple.Goals as goal

pub returns-in-Ok-clause-ok : goal.returns-in-Ok-clause-ok
returns-in-Ok-clause-ok g c =
    row_written g.DB.ArgumentBuffer.ArgumentList.count g.DB.ArgumentBuffer.ArgumentList.first g.DB.Arguments.Arguments.buffered (λ r. r.now.parts) (goal.F-step g)
    c.args.push_tuple.now _ c.args.item _ _ c.args.self.now c.put_row.new.self c.requires.works c.in-Ok.ensures c.take_row-row.ensures.taken c.take_row-row.ensures.list c.put_row.ensures.put
