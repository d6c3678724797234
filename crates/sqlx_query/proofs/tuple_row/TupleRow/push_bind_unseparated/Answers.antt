use Rattle.sqlx_query_drafts.specs.Tuples.{behind}
use Rattle.sqlx_query.proofs.RowLemmas.{moved_bound}
use Rattle.sqlx_query.proofs.tuple_row.TupleRow.push_bind_unseparated.Goals as goal

pub returns-in-Ok-clause-appends : goal.returns-in-Ok-clause-appends
returns-in-Ok-clause-appends g c =
    let count = g.DB.ArgumentBuffer.ArgumentList.count in
    let first = g.DB.ArgumentBuffer.ArgumentList.first in
    let buffered = g.DB.Arguments.Arguments.buffered in
    moved_bound count first (behind buffered c.args.self.now.parts) c.take-builder.result c.bind-answer.new.self (behind buffered c.put.new.self.parts) (g.DB.Arguments.Arguments.placeholder (count c.bind-answer.new.self.arguments)) (g.T.Encode.encoded c.args.value) c.take-builder.ensures.taken c.put.ensures.put c.in-Ok.ensures.ok c.in-Ok.ensures.one
