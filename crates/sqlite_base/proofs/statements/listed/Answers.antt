use Rattle.sqlite_base.proofs.QueryLemmas.{rows_all}
use Rattle.sqlite_base.proofs.statements.listed.Goals as goal

pub returns-clause-listed : goal.returns-clause-listed
returns-clause-listed c = c.loop-shown.invariant c.loop-shown.items.items (rows_all c.args.statement.now.columns c.args.rows.now c.loop-shown.shown-index c.loop-shown.items.items c.loop-shown-test.false)
