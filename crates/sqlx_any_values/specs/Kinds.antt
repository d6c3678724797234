-- The kinds of values.
use Rattle.std.specs.Prelude.{Bool, true, false, List, [], ◌∷◌, ◌++◌}
use Rattle.sqlx_text.specs.declared.kind.AnyTypeInfoKind.{AnyTypeInfoKind}
use Rattle.sqlx_text.specs.declared.kind.AnyTypeInfoKind.TheVariants as kind
use Rattle.sqlx_any_values.specs.declared.value.AnyValueKind.{AnyValueKind}
use Rattle.sqlx_any_values.specs.declared.value.AnyValueKind.TheVariants as value

-- the kind of a value; that of each null is Null
abbrev pub kind_of : AnyValueKind → AnyTypeInfoKind
kind_of (value.Null _) = kind.Null
kind_of (value.Bool _) = kind.Bool
kind_of (value.SmallInt _) = kind.SmallInt
kind_of (value.Integer _) = kind.Integer
kind_of (value.BigInt _) = kind.BigInt
kind_of (value.Text _) = kind.Text
kind_of (value.TextSlice _) = kind.Text
kind_of (value.Blob _) = kind.Blob

-- it is the kind of nulls
abbrev pub is_null_kind : AnyTypeInfoKind → Bool
is_null_kind kind.Null = true
is_null_kind _ = false

-- arguments with a null of the kind behind them
abbrev pub with_null : AnyTypeInfoKind → List AnyValueKind → List AnyValueKind
with_null own values = values ++ value.Null own ∷ []
