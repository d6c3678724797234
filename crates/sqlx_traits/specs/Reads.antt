-- Typed reads: what a call makes of a value, by the type that is asked for.
use Rattle.std.specs.Prelude.{◌≡◌, ◌⊎◌, ⊤, ℕ, Bool, true, false, ◌||◌, if◌then◌else◌, List, Option, Some, None, Result, Ok, Err}
use Rattle.sqlx_text.specs.Errors.{error_of}
use Rattle.sqlx_text.specs.declared.error.Error.{Error}
use Rattle.sqlx_text.specs.declared.error.Error.TheVariants as error
use Rattle.sqlx_text.specs.declared.fault.Fault.{Fault}
use Rattle.sqlx_text.specs.declared.fault.Fault.TheVariants as fault
use Rattle.sqlx_traits.specs.Places.{IsGiven, at_place}

-- the answer is what is due of the value that is seen in it, or the error `none` of memory
abbrev pub Answers : {T A E : Type 0} → (T → A) → E → Result A E → Result T E → Type 0
Answers seen none due (Ok x) = due ≡ Ok (seen x)
Answers seen none due (Err e) = (due ≡ Err e) ⊎ (e ≡ none)

-- what a type reads of a value, or want of memory
abbrev pub Reads : {T A : Type 0} → (T → A) → Result A Fault → Result T Fault → Type 0
Reads seen due r = Answers seen fault.OutOfMemory due r

-- what is told, or nothing
abbrev pub told : {A : Type 0} → Bool → A → Option A
told b x = if b then Some x else None

-- a value whose type doesn't fit is refused, and else the type reads it
abbrev pub ReadIfFits : {T : Type 0} → Bool → Fault → (Result T Fault → Type 0) → Result T Fault → Type 0
ReadIfFits true mismatch reads r = reads r
ReadIfFits false mismatch reads r = (r ≡ Err mismatch) ⊎ (r ≡ Err fault.OutOfMemory)

-- a type fits a value that is null, one of the type null, and one of a type that it reads
abbrev pub fits : {V I : Type 0} → (V → Bool) → (V → I) → (I → Bool) → (I → Bool) → V → Bool
fits null type_of null_type reads_type v = null v || (null_type (type_of v) || reads_type (type_of v))

-- the refusal of a type that doesn't fit: it names the Rust type, its SQL type, where that is told, and the type
abbrev pub mismatch_of : {I : Type 0} → (I → List ℕ) → Bool → List ℕ → I → I → Fault
mismatch_of named names_own rust own ty = fault.Mismatched rust (told names_own (named own)) (named ty)

-- no fault where the value fits, and else this one, or want of memory
abbrev pub Misfit : Bool → Fault → Option Fault → Type 0
Misfit fits mismatch None = fits ≡ true
Misfit fits mismatch (Some f) = (fits ≡ false) × ((f ≡ mismatch) ⊎ (f ≡ fault.OutOfMemory))

-- a checked read: `null` and `type_of` speak of values, `null_type` and `named` of types; the Rust type is called `rust`, its SQL type is `own`, which a refusal names where `names_own`, it takes the types `reads_type` and reads as `reads` says
abbrev pub Checked : {V I T : Type 0} → (V → Bool) → (V → I) → (I → Bool) → (I → List ℕ) → Bool → List ℕ → I → (I → Bool) → (V → Result T Fault → Type 0) → V → Result T Fault → Type 0
Checked null type_of null_type named names_own rust own reads_type reads v r =
    ReadIfFits (fits null type_of null_type reads_type v) (mismatch_of named names_own rust own (type_of v)) (reads v) r

-- a fault becomes an error
abbrev pub with_error : {T : Type 0} → (Fault → Error) → Result T Fault → Result T Error
with_error wrap (Ok x) = Ok x
with_error wrap (Err f) = Err (wrap f)

-- the error of a value that can't be read
abbrev pub decode_error : Fault → Error
decode_error f = error_of error.Decode f

-- the error of a column that can't be read
abbrev pub column_error : List ℕ → Fault → Error
column_error label f = error_of (λ f. error.ColumnDecode label f) f

-- a value's read
abbrev pub ValueRead : {T : Type 0} → (Result T Fault → Type 0) → Result T Error → Type 0
ValueRead {T = T} read r = (answer : Result T Fault) × read answer × (r ≡ with_error decode_error answer)

-- what is read of what stands at a place
abbrev pub ReadAt : {V T : Type 0} → Result V Error → (V → Result T Fault → Type 0) → List ℕ → Result T Error → Type 0
ReadAt (Err e) read label r = r ≡ Err e
ReadAt {T = T} (Ok v) read label r = (answer : Result T Fault) × read v answer × (r ≡ with_error (column_error label) answer)

-- a row's read at an index, by the row's values, the index's place in it and how an error calls that: the index is refused, or the value at it is read, or there is no memory
abbrev pub RowRead : {R I V T : Type 0} → (R → List V) → (I → R → Result ℕ Error) → (I → List ℕ) → R → I → (V → Result T Fault → Type 0) → Result T Error → Type 0
RowRead values place shown row index read r = (r ≡ Err error.OutOfMemory) ⊎ ReadAt (at_place (values row) (place index row)) read (shown index) r

-- a row's checked read at an index: the index is refused, or the value at it is read if its type fits, or there is no memory
abbrev pub RowChecked : {R J V I T : Type 0} → (R → List V) → (J → R → Result ℕ Error) → (J → List ℕ) → R → J → (V → Bool) → (V → I) → (I → Bool) → (I → List ℕ) → Bool → List ℕ → I → (I → Bool) → (V → Result T Fault → Type 0) → Result T Error → Type 0
RowChecked values place shown row index null type_of null_type named names_own rust own reads_type reads r =
    RowRead values place shown row index (Checked null type_of null_type named names_own rust own reads_type reads) r

-- each answer that the read may give is a value or want of memory
abbrev pub NeverRefuses : {T : Type 0} → (Result T Error → Type 0) → Type 0
NeverRefuses {T} read = (r : Result T Error) → read r → IsGiven r

-- the value is one that the read may give; where there is none, there is no memory
abbrev pub GivesValue : {T E : Type 0} → (Result T Error → Type 0) → Result T E → Type 0
GivesValue read (Ok x) = read (Ok x)
GivesValue read (Err none) = ⊤

-- an optional value, where the answer is one
abbrev pub option_of : {T : Type 0} → Result T Fault → Result (Option T) Fault
option_of (Ok x) = Ok (Some x)
option_of (Err f) = Err f

-- a read of an optional type: None of a null, and else as the type under it
abbrev pub ReadsOption : {T : Type 0} → Bool → (Result T Fault → Type 0) → Result (Option T) Fault → Type 0
ReadsOption true read r = r ≡ Ok None
ReadsOption {T = T} false read r = (answer : Result T Fault) × read answer × (r ≡ option_of answer)
