-- What a row and a statement are made of.
use Rattle.std.specs.Prelude.{◌≡◌, ℕ, List, Vec, Option, Some, None}
use Rattle.either.specs.declared.Either.{Either}
use Rattle.either.specs.declared.Either.TheVariants.{Left, Right}
use Rattle.sqlx_traits.specs.Parameters.{Parameters}
use Rattle.sqlx_any_values.specs.Names.{Names, AreBelow}
use Rattle.sqlx_any.specs.declared.column.AnyColumn.{AnyColumn}
use Rattle.sqlx_any_values.specs.declared.type_info.AnyTypeInfo.{AnyTypeInfo}
use Rattle.sqlx_any_values.specs.declared.value.AnyValue.{AnyValue}

-- a row: the names by which its columns are found, with their positions, its columns, and their values
pub record RowParts : Type 0 where
  pub names : Names
  pub columns : List AnyColumn
  pub values : List AnyValue

-- a statement: its text, what it tells of its parameters, the names of its columns, and these
pub record StatementParts : Type 0 where
  pub sql : List ℕ
  pub parameters : Parameters AnyTypeInfo
  pub names : Names
  pub columns : List AnyColumn

-- as many values as columns, and each name is that of a column
abbrev pub Fits : Names → ℕ → ℕ → Type 0
Fits names columns values = (values ≡ columns) × AreBelow names columns

-- what is told of parameters whose types are kept
abbrev pub parameters_held : {I A : Type 0} → Option (Either (Vec I A) ℕ) → Parameters I
parameters_held None = None
parameters_held (Some (Left types)) = Some (Left types.items)
parameters_held (Some (Right count)) = Some (Right count)
