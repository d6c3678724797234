use Rattle.sqlite_base.proofs.base.with_table.Goals as goal

pub returns-in-Ok-clause-opened : goal.returns-in-Ok-clause-opened
returns-in-Ok-clause-opened c = (c.args.conn, c.requires, c.in-Ok.ensures.ran)
