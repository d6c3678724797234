-- The names of the kinds of values.
use Rattle.std.specs.Prelude.{Bool, true, false, ℕ, List, codes}
use Rattle.sqlx_text.specs.declared.kind.AnyTypeInfoKind.{AnyTypeInfoKind}
use Rattle.sqlx_text.specs.declared.kind.AnyTypeInfoKind.TheVariants as kind

-- the name of a kind, as SQL writes it
abbrev pub kind_name : AnyTypeInfoKind → List ℕ
kind_name kind.Null = codes "NULL"
kind_name kind.Bool = codes "BOOLEAN"
kind_name kind.SmallInt = codes "SMALLINT"
kind_name kind.Integer = codes "INTEGER"
kind_name kind.BigInt = codes "BIGINT"
kind_name kind.Text = codes "TEXT"
kind_name kind.Blob = codes "BLOB"

-- the values of the kind are whole numbers
abbrev pub is_whole_number : AnyTypeInfoKind → Bool
is_whole_number kind.SmallInt = true
is_whole_number kind.Integer = true
is_whole_number kind.BigInt = true
is_whole_number _ = false
