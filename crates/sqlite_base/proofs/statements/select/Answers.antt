-- A text whose rows are asked for gives them, or is refused, once it's prepared.
use Rattle.std.proofs.Common.{IfOk, inr, subst}
use Rattle.sqlite.specs.Held.{state}
use Rattle.sqlite.specs.Values.{bound}
use Rattle.sqlite_base.specs.Refusals.{refusal_error}
use Rattle.sqlite_base.proofs.QueryLemmas.{Completes, gives_rows, refuses_shown, refuses_unfit}
use Rattle.sqlite_base.proofs.statements.select.Goals as goal

pub returns-in-Ok-clause-gave : goal.returns-in-Ok-clause-gave
returns-in-Ok-clause-gave g c =
    gives_rows (state g.S.Store) c.args.text.now (bound c.args.values.now) c.args.conn.now c.prepared.new.conn c.shown.new.conn c.in_ok-statement.statement c.in-Ok.rows.items (λ all. all.items) c.completed.result c.in_ok-statement.ensures.prepared c.in-Ok.ensures.shown
    (subst (λ rows. IfOk c.completed.result (λ all. Completes c.in_ok-statement.statement.columns rows all.items)) c.as_slice.ensures.value c.completed.ensures.all)

pub returns-in-Ok-clause-refused : goal.returns-in-Ok-clause-refused
returns-in-Ok-clause-refused g c =
    refuses_unfit (state g.S.Store) c.args.text.now (bound c.args.values.now) c.args.conn.now c.prepared.new.conn c.shown.new.conn c.in_ok-statement.statement c.in-Ok.rows.items refusal_error c.completed.result c.in_ok-statement.ensures.prepared c.in-Ok.ensures.shown c.completed.ensures.refused

pub returns-clause-refused : goal.returns-clause-refused
returns-clause-refused g c =
    inr (refuses_shown (state g.S.Store) c.args.text.now (bound c.args.values.now) c.args.conn.now c.prepared.new.conn c.shown.new.conn c.in_ok-statement.statement (refusal_error c.in-Err.refusal) c.in_ok-statement.ensures.prepared c.in-Err.ensures.refused)
