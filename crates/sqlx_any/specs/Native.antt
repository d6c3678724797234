-- The forms in Any of the types, columns and statements that a database has of its own.
use Rattle.std.specs.Prelude.{ℕ, List, map, Option, Some, None, Result, Ok, Err}
use Rattle.either.specs.declared.Either.TheVariants.{Left, Right}
use Rattle.sqlx_text.specs.declared.error.Error.{Error}
use Rattle.sqlx_text.specs.declared.error.Error.TheVariants as error
use Rattle.sqlx_text.specs.declared.fault.Fault.TheVariants as fault
use Rattle.sqlx_text.specs.declared.kind.AnyTypeInfoKind.{AnyTypeInfoKind}
use Rattle.sqlx_traits.specs.Parameters.{Parameters}
use Rattle.sqlx_traits.specs.Reads.{Answers}
use Rattle.sqlx_traits.specs.StepList.{all_of}
use Rattle.sqlx_any_values.specs.Names.{Names}
use Rattle.sqlx_any.specs.Rows.{StatementParts}
use Rattle.sqlx_any.specs.declared.column.AnyColumn.{AnyColumn}
use Rattle.sqlx_any_values.specs.declared.type_info.AnyTypeInfo.{AnyTypeInfo}

-- the type of a kind, and the refusal of a type of this name that has none
abbrev pub any_type : Option AnyTypeInfoKind → List ℕ → Result AnyTypeInfo Error
any_type (Some kind) name = Ok (record { kind = kind })
any_type None name = Err (error.AnyDriverError (fault.NoKind name))

-- a column of a type, unless the type is refused
abbrev pub any_column : ℕ → List ℕ → Result AnyTypeInfo Error → Result AnyColumn Error
any_column at name (Ok ty) = Ok (record { ordinal = at; name = name; type_info = ty })
any_column at name (Err e) = Err e

-- types of parameters, unless one is refused
abbrev pub with_types : Result (List AnyTypeInfo) Error → Result (Parameters AnyTypeInfo) Error
with_types (Ok types) = Ok (Some (Left types))
with_types (Err e) = Err e

-- of types, `kind` tells the kind that Any knows them by, and `named` their name
module _ {I : Type 0} (kind : I → Option AnyTypeInfoKind) (named : I → List ℕ) where
  -- the form of a type
  abbrev pub native_type : I → Result AnyTypeInfo Error
  native_type ty = any_type (kind ty) (named ty)

  -- the forms of types, in order; the first one without a kind is refused
  abbrev pub native_types : List I → Result (List AnyTypeInfo) Error
  native_types types = all_of (map native_type types)

  -- the form of what is told of parameters
  abbrev pub native_parameters : Parameters I → Result (Parameters AnyTypeInfo) Error
  native_parameters None = Ok None
  native_parameters (Some (Right count)) = Ok (Some (Right count))
  native_parameters (Some (Left types)) = with_types (native_types types)

  -- of columns, `at` tells the position, `called` the name, and `typed` the type
  module _ {C : Type 0} (at : C → ℕ) (called : C → List ℕ) (typed : C → I) where
    -- the form of a column
    abbrev pub native_column : C → Result AnyColumn Error
    native_column column = any_column (at column) (called column) (native_type (typed column))

    -- the forms of columns, in order; the first one whose type has no kind is refused
    abbrev pub native_columns : List C → Result (List AnyColumn) Error
    native_columns columns = all_of (map native_column columns)

-- the answer is the form that is due, or there is no memory
abbrev pub Forms : {T A : Type 0} → (T → A) → Result A Error → Result T Error → Type 0
Forms seen due r = Answers seen error.OutOfMemory due r

-- a statement of parameters and columns; the parameters are the first to refuse
abbrev pub any_statement : List ℕ → Names → Result (Parameters AnyTypeInfo) Error → Result (List AnyColumn) Error → Result StatementParts Error
any_statement sql names (Err e) columns = Err e
any_statement sql names (Ok parameters) (Err e) = Err e
any_statement sql names (Ok parameters) (Ok columns) = Ok (record { sql = sql; parameters = parameters; names = names; columns = columns })

-- the form of a statement; of statements `text` tells the text, `takes` the parameters, and `described` the columns
abbrev pub native_statement : {S I C : Type 0} → (I → Option AnyTypeInfoKind) → (I → List ℕ) → (C → ℕ) → (C → List ℕ) → (C → I) → (S → List ℕ) → (S → Parameters I) → (S → List C) → S → Names → Result StatementParts Error
native_statement kind named at called typed text takes described statement names =
    any_statement (text statement) names (native_parameters kind named (takes statement)) (native_columns kind named at called typed (described statement))

-- the answer is that form, or there is no memory
abbrev pub FormsStatement : {S I C : Type 0} → (I → Option AnyTypeInfoKind) → (I → List ℕ) → (C → ℕ) → (C → List ℕ) → (C → I) → (S → List ℕ) → (S → Parameters I) → (S → List C) → S → Names → Result StatementParts Error → Type 0
FormsStatement kind named at called typed text takes described statement names r =
    Forms (λ made. made) (native_statement kind named at called typed text takes described statement names) r
