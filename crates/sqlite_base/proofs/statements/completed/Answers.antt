-- Rows that were listed, with a result behind them, or want of memory for it.
use Rattle.sqlite_base.specs.Refusals.{refusal_error}
use Rattle.sqlite_base.proofs.QueryLemmas.{completes, unfit_of}
use Rattle.sqlite_base.proofs.statements.completed.Goals as goal

pub returns-in-Ok-clause-all : goal.returns-in-Ok-clause-all
returns-in-Ok-clause-all c = completes c.args.statement.now.columns c.args.rows.now c.in-Ok.items.items (λ all. all.items) c.finished.result c.in-Ok.ensures.listed c.finished.ensures.all

pub returns-in-Ok-clause-refused : goal.returns-in-Ok-clause-refused
returns-in-Ok-clause-refused c = unfit_of refusal_error c.finished.result c.finished.ensures.wanting
