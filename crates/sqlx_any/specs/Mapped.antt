-- The form in Any of a row that a database has of its own.
use Rattle.std.specs.Prelude.{◌≡◌, ◌⊎◌, ⊤, ℕ, ℤ, Bool, true, false, List, [], ◌∷◌, Option, Some, None, Result, Ok, Err, String, string_bytes, Vec, decimal}
use Rattle.sqlx_text.specs.declared.error.Error.{Error}
use Rattle.sqlx_text.specs.declared.error.Error.TheVariants as error
use Rattle.sqlx_text.specs.declared.fault.Fault.{Fault}
use Rattle.sqlx_text.specs.declared.fault.Fault.TheVariants as fault
use Rattle.sqlx_text.specs.declared.kind.AnyTypeInfoKind.{AnyTypeInfoKind}
use Rattle.sqlx_text.specs.declared.kind.AnyTypeInfoKind.TheVariants as kind
use Rattle.sqlx_traits.specs.Places.{at_place}
use Rattle.sqlx_traits.specs.Reads.{ValueRead, column_error}
use Rattle.sqlx_any_values.specs.Names.{Names}
use Rattle.sqlx_any.specs.Native.{native_column}
use Rattle.sqlx_any.specs.Rows.{RowParts}
use Rattle.sqlx_any.specs.declared.column.AnyColumn.{AnyColumn}
use Rattle.sqlx_any_values.specs.declared.value.AnyValue.{AnyValue}
use Rattle.sqlx_any_values.specs.declared.value.AnyValueKind.{AnyValueKind}
use Rattle.sqlx_any_values.specs.declared.value.AnyValueKind.TheVariants as value

-- an answer of which the fact holds, or the error of no memory
abbrev pub OrNoMemory : {T : Type 0} → (Result T Error → Type 0) → Result T Error → Type 0
OrNoMemory P (Ok x) = P (Ok x)
OrNoMemory P (Err e) = P (Err e) ⊎ (e ≡ error.OutOfMemory)

-- what is made of a read value, where it is read
abbrev pub made_of : {T A : Type 0} → (T → A) → Result T Fault → Result A Fault
made_of made (Ok x) = Ok (made x)
made_of made (Err f) = Err f

-- a value that is read by a type, and what is made of it
abbrev pub ReadAs : {T A : Type 0} → (T → A) → (Result T Fault → Type 0) → Result A Fault → Type 0
ReadAs {T = T} made reads r = (answer : Result T Fault) × reads answer × (r ≡ made_of made answer)

-- what a database's values are read as, by the Rust type of the kind
module _ {V A : Type 0} (bools : V → Result Bool Fault → Type 0) (smalls integers bigs : V → Result ℤ Fault → Type 0) (texts : V → Result (String A) Fault → Type 0) (blobs : V → Result (Vec ℕ A) Fault → Type 0) where
  -- a value of a kind, read by the Rust type of that kind
  abbrev pub KindRead : AnyTypeInfoKind → V → Result AnyValueKind Fault → Type 0
  KindRead kind.Null v r = r ≡ Ok (value.Null kind.Null)
  KindRead kind.Bool v r = ReadAs value.Bool (bools v) r
  KindRead kind.SmallInt v r = ReadAs value.SmallInt (smalls v) r
  KindRead kind.Integer v r = ReadAs value.Integer (integers v) r
  KindRead kind.BigInt v r = ReadAs value.BigInt (bigs v) r
  KindRead kind.Text v r = ReadAs (λ text. value.Text (string_bytes text)) (texts v) r
  KindRead kind.Blob v r = ReadAs (λ bytes. value.Blob bytes.items) (blobs v) r

-- a value: one whose type, of this name, has no kind is refused as its column's, a null stays one, of its type's kind, and any other is read by its kind
abbrev pub ValueGives : Option AnyTypeInfoKind → List ℕ → List ℕ → Bool → (AnyTypeInfoKind → Result AnyValueKind Fault → Type 0) → Result AnyValueKind Error → Type 0
ValueGives None name label null reads r = r ≡ Err (column_error label (fault.NoKind name))
ValueGives (Some k) name label true reads r = r ≡ Ok (value.Null k)
ValueGives (Some k) name label false reads r = ValueRead (reads k) r

-- a column with its value, where this can be had
abbrev pub beside : AnyColumn → Result AnyValueKind Error → Result (AnyColumn × AnyValue) Error
beside column (Ok v) = Ok (column, record { kind = v })
beside column (Err e) = Err e

-- a column and its value: the column's form, then the value at its place, then what is made of that; the first refusal is the answer
abbrev pub CellGives : {V : Type 0} → Result AnyColumn Error → Result V Error → (V → Result AnyValueKind Error → Type 0) → Result (AnyColumn × AnyValue) Error → Type 0
CellGives (Err e) place gives r = r ≡ Err e
CellGives (Ok column) (Err e) gives r = r ≡ Err e
CellGives (Ok column) (Ok v) gives r = (given : Result AnyValueKind Error) × gives v given × (r ≡ beside column given)

-- of a database: what its types and columns tell, what its values tell and are read as by a kind
module _ {V I : Type 0} (kind : I → Option AnyTypeInfoKind) (named : I → List ℕ) (type_of : V → I) (null : V → Bool) (reads : AnyTypeInfoKind → V → Result AnyValueKind Fault → Type 0) where
  -- what the value of the column of this label gives
  abbrev pub NativeValue : List ℕ → V → Result AnyValueKind Error → Type 0
  NativeValue label v r = ValueGives (kind (type_of v)) (named (type_of v)) label (null v) (λ k. reads k v) r

  -- what a column gives with the value at its place among these
  abbrev pub NativeCell : {C : Type 0} → (C → ℕ) → (C → List ℕ) → (C → I) → List V → C → Result (AnyColumn × AnyValue) Error → Type 0
  NativeCell at called typed values column r =
      CellGives (native_column kind named at called typed column) (at_place values (Ok (at column))) (NativeValue (decimal (at column))) r

-- what items give, each in turn
module _ {C A B : Type 0} (Gives : C → Result (A × B) Error → Type 0) where
  -- each item gives what stands at its place in both lists
  abbrev pub AllGive : List C → List A → List B → Type 0
  AllGive [] [] [] = ⊤
  AllGive (c ∷ cs) (a ∷ firsts) (b ∷ seconds) = Gives c (Ok (a, b)) × AllGive cs firsts seconds
  AllGive _ _ _ = ⊥

  -- an item refuses, and each before it gives something
  abbrev pub FirstRefuses : List C → Error → Type 0
  FirstRefuses [] e = ⊥
  FirstRefuses (c ∷ cs) e = Gives c (Err e) ⊎ ((given : A × B) × Gives c (Ok given) × FirstRefuses cs e)

-- a row: its columns with their values, in order, under these names; or the first refusal, or there is no memory
abbrev pub RowGives : {C : Type 0} → (C → Result (AnyColumn × AnyValue) Error → Type 0) → List C → Names → Result RowParts Error → Type 0
RowGives Gives columns names (Ok row) = (row.names ≡ names) × AllGive Gives columns row.columns row.values
RowGives Gives columns names (Err e) = FirstRefuses Gives columns e ⊎ (e ≡ error.OutOfMemory)

-- the same of a row of a database, by its columns and its values
abbrev pub NativeRow : {V I C : Type 0} → (I → Option AnyTypeInfoKind) → (I → List ℕ) → (V → I) → (V → Bool) → (AnyTypeInfoKind → V → Result AnyValueKind Fault → Type 0) → (C → ℕ) → (C → List ℕ) → (C → I) → List C → List V → Names → Result RowParts Error → Type 0
NativeRow kind named type_of null reads at called typed columns values names r =
    RowGives (NativeCell kind named type_of null reads at called typed values) columns names r
