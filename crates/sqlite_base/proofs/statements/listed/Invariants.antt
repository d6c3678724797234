use Rattle.std.proofs.Common.{List, [], drop}
use Rattle.sqlite_base.specs.Queries.{GainsRows, Item}
use Rattle.sqlite_base.proofs.statements.listed.Given as goal

-- with the rows that are left the list is whole
abbrev pub invariant-loop-shown : goal.invariant-loop-shown
invariant-loop-shown l = (whole : List Item) → GainsRows l.statement.columns (drop l.shown-index l.rows) l.items.items whole → GainsRows l.statement.columns l.rows [] whole
