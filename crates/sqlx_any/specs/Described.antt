-- What is told of a text without running it.
use Rattle.std.specs.Prelude.{ℕ, Bool, List, Vec, Option, Result, Ok, Err}
use Rattle.either.specs.declared.Either.{Either}
use Rattle.sqlx_text.specs.declared.error.Error.{Error}
use Rattle.sqlx_traits.specs.Parameters.{Parameters}
use Rattle.sqlx_text.specs.declared.kind.AnyTypeInfoKind.{AnyTypeInfoKind}
use Rattle.sqlx_any.specs.Native.{native_columns, native_parameters}
use Rattle.sqlx_any.specs.Rows.{parameters_held}
use Rattle.sqlx_any.specs.declared.column.AnyColumn.{AnyColumn}
use Rattle.sqlx_any_values.specs.declared.type_info.AnyTypeInfo.{AnyTypeInfo}

-- its columns, its parameters, and for each column whether it can be null, as far as that is known
pub record DescribeParts (C I : Type 0) : Type 0 where
  pub columns : List C
  pub parameters : Parameters I
  pub nullable : List (Option Bool)

-- the same of what is kept
abbrev pub held : {C I A : Type 0} → Vec C A → Option (Either (Vec I A) ℕ) → Vec (Option Bool) A → DescribeParts C I
held columns parameters nullable = record { columns = columns.items; parameters = parameters_held parameters; nullable = nullable.items }

-- what is told, unless columns or parameters are refused; the columns are the first to refuse
abbrev pub any_describe : {C I : Type 0} → Result (List C) Error → Result (Parameters I) Error → List (Option Bool) → Result (DescribeParts C I) Error
any_describe (Err e) parameters nullable = Err e
any_describe (Ok columns) (Err e) nullable = Err e
any_describe (Ok columns) (Ok parameters) nullable = Ok (record { columns = columns; parameters = parameters; nullable = nullable })

-- the form in Any of what is told of a text
abbrev pub native_describe : {C I : Type 0} → (I → Option AnyTypeInfoKind) → (I → List ℕ) → (C → ℕ) → (C → List ℕ) → (C → I) → DescribeParts C I → Result (DescribeParts AnyColumn AnyTypeInfo) Error
native_describe kind named at called typed parts =
    any_describe (native_columns kind named at called typed parts.columns) (native_parameters kind named parts.parameters) parts.nullable

-- the same of what is kept
abbrev pub native_held : {C I A : Type 0} → (I → Option AnyTypeInfoKind) → (I → List ℕ) → (C → ℕ) → (C → List ℕ) → (C → I) → Vec C A → Option (Either (Vec I A) ℕ) → Vec (Option Bool) A → Result (DescribeParts AnyColumn AnyTypeInfo) Error
native_held kind named at called typed columns parameters nullable =
    native_describe kind named at called typed (held columns parameters nullable)
