use Rattle.sqlx_query_drafts.specs.Tuples.{behind}
use Rattle.sqlx_query.proofs.RowLemmas.{moved_text}
use Rattle.sqlx_query.proofs.tuple_row.TupleRow.push_unseparated.Goals as goal

pub returns-in-Ok-clause-appends : goal.returns-in-Ok-clause-appends
returns-in-Ok-clause-appends g c =
    let count = g.DB.ArgumentBuffer.ArgumentList.count in
    let first = g.DB.ArgumentBuffer.ArgumentList.first in
    let buffered = g.DB.Arguments.Arguments.buffered in
    moved_text count first (behind buffered c.args.self.now.parts) c.take-builder.result c.append-answer.new.self (behind buffered c.put.new.self.parts) c.args.sql.now c.take-builder.ensures.taken c.put.ensures.put c.in-Ok.ensures.ok
