use Rattle.std.proofs.Common.{◌∙◌, codes}
use Rattle.sqlx_query_drafts.specs.Builder.{Text}
use Rattle.sqlx_query_drafts.specs.Tuples.{behind, comma}
use Rattle.sqlx_query.proofs.RowLemmas.{appends_none, appends_some, moved_entry}
use Rattle.sqlx_query.proofs.tuple_row.TupleRow.push.Goals as goal

pub returns-in-Ok-clause-ok : goal.returns-in-Ok-clause-ok
returns-in-Ok-clause-ok g c =
    let count = g.DB.ArgumentBuffer.ArgumentList.count in
    let first = g.DB.ArgumentBuffer.ArgumentList.first in
    let buffered = g.DB.Arguments.Arguments.buffered in
    moved_entry count first (behind buffered c.args.self.now.parts) c.take-builder.result c.push_entry-answer.new.self (behind buffered c.put.new.self.parts) c.take-builder.new.self.parts.has_piece c.args.self.now.parts.has_piece (codes ", ") (Text c.args.sql.now) c.take-builder.ensures.taken c.put.ensures.put c.take-builder.ensures.list c.in-Ok.ensures.ok

pub returns-in-Ok-clause-appends : goal.returns-in-Ok-clause-appends
returns-in-Ok-clause-appends g c =
    let count = g.DB.ArgumentBuffer.ArgumentList.count in
    let first = g.DB.ArgumentBuffer.ArgumentList.first in
    let buffered = g.DB.Arguments.Arguments.buffered in
    let ps = comma c.args.self.now.parts (Text c.args.sql.now) in
    appends_some count first (behind buffered c.args.self.now.parts) (behind buffered c.put.new.self.parts) ps (moved_entry count first (behind buffered c.args.self.now.parts) c.take-builder.result c.push_entry-answer.new.self (behind buffered c.put.new.self.parts) c.take-builder.new.self.parts.has_piece c.args.self.now.parts.has_piece (codes ", ") (Text c.args.sql.now) c.take-builder.ensures.taken c.put.ensures.put c.take-builder.ensures.list c.in-Ok.ensures.ok)

pub returns-in-Err-clause-err : goal.returns-in-Err-clause-err
returns-in-Err-clause-err g c = c.put.ensures.put ∙ c.in-Err.ensures.err ∙ c.take-builder.ensures.taken

pub returns-in-Err-clause-appends : goal.returns-in-Err-clause-appends
returns-in-Err-clause-appends g c =
    let count = g.DB.ArgumentBuffer.ArgumentList.count in
    let first = g.DB.ArgumentBuffer.ArgumentList.first in
    let buffered = g.DB.Arguments.Arguments.buffered in
    appends_none count first (behind buffered c.args.self.now.parts) (behind buffered c.put.new.self.parts) (c.put.ensures.put ∙ c.in-Err.ensures.err ∙ c.take-builder.ensures.taken)
