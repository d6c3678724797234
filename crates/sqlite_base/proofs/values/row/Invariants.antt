use Rattle.std.proofs.Common.{drop}
use Rattle.sqlx_any.specs.Rows.{RowParts}
use Rattle.sqlite_base.specs.Queries.{GainsCells, no_cells}
use Rattle.sqlite_base.proofs.values.row.Given as goal

-- with cells under the names that are left the row is whole
abbrev pub invariant-loop-name : goal.invariant-loop-name
invariant-loop-name l = (whole : RowParts) → GainsCells l.row (drop l.name-index l.names) l.cells whole → GainsCells l.row l.names no_cells whole
