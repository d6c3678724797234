-- What a text gives that is executed, or whose rows are asked for.
use Rattle.sqlite.specs.Held.{state}
use Rattle.sqlite.specs.Values.{bound}
use Rattle.sqlite_base.specs.Refusals.{refusal_error}
use Rattle.sqlite_base.proofs.QueryLemmas.{gives_asked, refuses_asked, where_none}
use Rattle.sqlite_base.proofs.statements.given.Goals as goal

pub returns-in-Ok-None-clause-gave : goal.returns-in-Ok-None-clause-gave
returns-in-Ok-None-clause-gave g c =
    gives_asked (state g.S.Store) c.args.text.now (bound c.args.values.now) c.args.conn.now c.executed.new.conn c.select.new.conn (λ all. all.items) c.select.result (where_none c.in-Ok-None.field-0 c.in-Ok-None.field-0-is c.in-Ok-None.ensures.rows) c.select.ensures.gave

pub returns-in-Ok-None-clause-refused : goal.returns-in-Ok-None-clause-refused
returns-in-Ok-None-clause-refused g c =
    refuses_asked (state g.S.Store) c.args.text.now (bound c.args.values.now) c.args.conn.now c.executed.new.conn c.select.new.conn refusal_error c.select.result (where_none c.in-Ok-None.field-0 c.in-Ok-None.field-0-is c.in-Ok-None.ensures.rows) c.select.ensures.refused
