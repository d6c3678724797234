use Rattle.std.proofs.Common.{◌≡◌, Ok, length, map, take}
use Rattle.sqlx_traits.specs.StepList.{all_of}
use Rattle.sqlx_any.specs.Native.{native_column}
use Rattle.sqlx_any.proofs.native.columns_from.Given as goal

abbrev pub invariant-loop-column : goal.invariant-loop-column
invariant-loop-column g l =
    (all_of (map (native_column g.DB.TypeInfo.TypeInfo.kind g.DB.TypeInfo.TypeInfo.named g.DB.Column.Column.at g.DB.Column.Column.named g.DB.Column.Column.typed) (take l.column-index l.columns)) ≡ Ok l.forms.items)
    × (length l.forms.items ≡ l.column-index)
