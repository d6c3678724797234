use Rattle.std.proofs.Common.{◌∙◌, codes, subst, sym}
use Rattle.sqlx_query_drafts.specs.Builder.{Bound, Draft, Gains}
use Rattle.sqlx_query_drafts.specs.Tuples.{behind, comma}
use Rattle.sqlx_query.proofs.RowLemmas.{appends_none, appends_some, moved_entry}
use Rattle.sqlx_query.proofs.tuple_row.TupleRow.push_bind.Goals as goal

pub returns-in-Ok-clause-ok : goal.returns-in-Ok-clause-ok
returns-in-Ok-clause-ok g c =
    let count = g.DB.ArgumentBuffer.ArgumentList.count in
    let first = g.DB.ArgumentBuffer.ArgumentList.first in
    let buffered = g.DB.Arguments.Arguments.buffered in
    let placeholder = g.DB.Arguments.Arguments.placeholder in
    let before = behind buffered c.args.self.now.parts in
    let now = behind buffered c.put.new.self.parts in
    let At : Draft g.row.DB-ArgumentBuffer.Denot → Type 0 = λ x. Gains count first before (comma c.args.self.now.parts (Bound (placeholder (count x.arguments)) (g.T.Encode.encoded c.args.value))) now in
    subst At (sym c.put.ensures.put) (moved_entry count first (behind buffered c.args.self.now.parts) c.take-builder.result c.bind_entry-answer.new.self (behind buffered c.put.new.self.parts) c.take-builder.new.self.parts.has_piece c.args.self.now.parts.has_piece (codes ", ") (Bound (g.DB.Arguments.Arguments.placeholder (count c.bind_entry-answer.new.self.arguments)) (g.T.Encode.encoded c.args.value)) c.take-builder.ensures.taken c.put.ensures.put c.take-builder.ensures.list c.in-Ok.ensures.ok)

pub returns-in-Ok-clause-appends : goal.returns-in-Ok-clause-appends
returns-in-Ok-clause-appends g c =
    let count = g.DB.ArgumentBuffer.ArgumentList.count in
    let first = g.DB.ArgumentBuffer.ArgumentList.first in
    let buffered = g.DB.Arguments.Arguments.buffered in
    let ps = comma c.args.self.now.parts (Bound (g.DB.Arguments.Arguments.placeholder (count c.bind_entry-answer.new.self.arguments)) (g.T.Encode.encoded c.args.value)) in
    appends_some count first (behind buffered c.args.self.now.parts) (behind buffered c.put.new.self.parts) ps (moved_entry count first (behind buffered c.args.self.now.parts) c.take-builder.result c.bind_entry-answer.new.self (behind buffered c.put.new.self.parts) c.take-builder.new.self.parts.has_piece c.args.self.now.parts.has_piece (codes ", ") (Bound (g.DB.Arguments.Arguments.placeholder (count c.bind_entry-answer.new.self.arguments)) (g.T.Encode.encoded c.args.value)) c.take-builder.ensures.taken c.put.ensures.put c.take-builder.ensures.list c.in-Ok.ensures.ok)

pub returns-in-Err-clause-err : goal.returns-in-Err-clause-err
returns-in-Err-clause-err g c = c.put.ensures.put ∙ c.in-Err.ensures.err ∙ c.take-builder.ensures.taken

pub returns-in-Err-clause-appends : goal.returns-in-Err-clause-appends
returns-in-Err-clause-appends g c =
    let count = g.DB.ArgumentBuffer.ArgumentList.count in
    let first = g.DB.ArgumentBuffer.ArgumentList.first in
    let buffered = g.DB.Arguments.Arguments.buffered in
    appends_none count first (behind buffered c.args.self.now.parts) (behind buffered c.put.new.self.parts) (c.put.ensures.put ∙ c.in-Err.ensures.err ∙ c.take-builder.ensures.taken)
