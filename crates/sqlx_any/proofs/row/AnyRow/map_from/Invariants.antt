use Rattle.std.proofs.Common.{◌≡◌, Result, length, take}
use Rattle.sqlx_text.specs.declared.error.Error.{Error}
use Rattle.sqlx_any.specs.Mapped.{AllGive, NativeCell}
use Rattle.sqlx_any.specs.declared.column.AnyColumn.{AnyColumn}
use Rattle.sqlx_any_values.specs.declared.value.AnyValue.{AnyValue}
use Rattle.sqlx_any.proofs.row.AnyRow.map_from.Given as goal

-- what a column of the row gives
abbrev pub Gives : (g : goal.Over) → g.row.DB-Row.Denot → g.row.DB-Column.Denot → Result (AnyColumn × AnyValue) Error → Type 0
Gives g row =
    NativeCell g.DB.TypeInfo.TypeInfo.kind g.DB.TypeInfo.TypeInfo.named g.DB.Value.Value.type_of g.DB.Value.Value.null g.DB.ReadsAnyKinds.kind_reads
    g.DB.Column.Column.at g.DB.Column.Column.named g.DB.Column.Column.typed (g.DB.Row.Row.values row)

abbrev pub invariant-loop-column : goal.invariant-loop-column
invariant-loop-column g l =
    AllGive (Gives g l.row) (take l.column-index l.column-items) l.columns.items l.values.items
    × (length l.columns.items ≡ l.column-index)
    × (length l.values.items ≡ l.column-index)
