-- Typed reads: what each Rust type makes of a value, whatever its kind.
use Rattle.std.specs.Prelude.{ℕ, ℤ, pos, negsuc, List, codes, Bool, true, false, not, ◌||◌, Result, Ok, Err, int_lt, if◌then◌else◌}
use Rattle.sqlx_text.specs.Kind.{kind_name, is_whole_number}
use Rattle.sqlx_text.specs.declared.fault.Fault.{Fault}
use Rattle.sqlx_text.specs.declared.fault.Fault.TheVariants as fault
use Rattle.sqlx_text.specs.declared.kind.AnyTypeInfoKind.{AnyTypeInfoKind}
use Rattle.sqlx_text.specs.declared.kind.AnyTypeInfoKind.TheVariants as kind
use Rattle.sqlx_traits.specs.Reads.{Reads, told}
use Rattle.sqlx_any_values.specs.declared.value.AnyValue.{AnyValue}
use Rattle.sqlx_any_values.specs.declared.value.AnyValueKind.{AnyValueKind}
use Rattle.sqlx_any_values.specs.declared.value.AnyValueKind.TheVariants as value
use Rattle.sqlx_any_values.specs.Kinds.{is_null_kind, kind_of}

-- the refusal of a value whose kind the type doesn't read; a null is one, since its kind is Null
abbrev pub unexpected : {A : Type 0} → AnyTypeInfoKind → AnyValueKind → Result A Fault
unexpected own v = Err (fault.Unexpected own (kind_of v))

-- a whole number, if it is one of low to high
abbrev pub within : ℤ → ℤ → ℤ → Result ℤ Fault
within low high n = if int_lt n low || int_lt high n then Err fault.OutOfRange else Ok n

-- a type of the whole numbers from low to high reads each kind of whole numbers
abbrev pub read_whole : AnyTypeInfoKind → ℤ → ℤ → AnyValueKind → Result ℤ Fault
read_whole own low high (value.SmallInt n) = within low high n
read_whole own low high (value.Integer n) = within low high n
read_whole own low high (value.BigInt n) = within low high n
read_whole own low high v = unexpected own v

-- the whole numbers of 16 bits
abbrev pub read_i16 : AnyValueKind → Result ℤ Fault
read_i16 v = read_whole kind.SmallInt (negsuc 32_767) (pos 32_767) v

-- the whole numbers of 32 bits
abbrev pub read_i32 : AnyValueKind → Result ℤ Fault
read_i32 v = read_whole kind.Integer (negsuc 2_147_483_647) (pos 2_147_483_647) v

-- the whole numbers of 64 bits
abbrev pub read_i64 : AnyValueKind → Result ℤ Fault
read_i64 v = read_whole kind.BigInt (negsuc 9_223_372_036_854_775_807) (pos 9_223_372_036_854_775_807) v

-- a type of truth values reads these
abbrev pub read_bool : AnyValueKind → Result Bool Fault
read_bool (value.Bool b) = Ok b
read_bool v = unexpected kind.Bool v

-- a type of texts reads both kinds of texts
abbrev pub read_text : AnyValueKind → Result (List ℕ) Fault
read_text (value.Text text) = Ok text
read_text (value.TextSlice text) = Ok text
read_text v = unexpected kind.Text v

-- a type of bytes reads these
abbrev pub read_bytes : AnyValueKind → Result (List ℕ) Fault
read_bytes (value.Blob bytes) = Ok bytes
read_bytes v = unexpected kind.Blob v

-- a read goes on to a value of the kind: where it isn't checked, where the value is null, and where the type takes the kind
abbrev pub may_read : Bool → Bool → AnyTypeInfoKind → Bool
may_read is_checked takes kind = not is_checked || (is_null_kind kind || takes)

-- a Rust type as one that is read: how it is called, its own kind, the kinds that it reads, and what it makes of a value
pub record Reader (A : Type 0) : Type 0 where
  pub called : List ℕ
  pub own : AnyTypeInfoKind
  pub takes : AnyTypeInfoKind → Bool
  pub read : AnyValueKind → Result A Fault

module _ {A : Type 0} where
  -- the refusal of a value that doesn't fit; a row doesn't tell the type's own kind
  abbrev pub mismatched : Reader A → Bool → AnyValueKind → Result A Fault
  mismatched t of_row v = Err (fault.Mismatched t.called (told (not of_row) (kind_name t.own)) (kind_name (kind_of v)))

  -- a typed read, checked or not, of a value that stands alone or in a row
  abbrev pub typed_read : Reader A → Bool → Bool → AnyValueKind → Result A Fault
  typed_read t is_checked of_row v = if may_read is_checked (t.takes (kind_of v)) (kind_of v) then t.read v else mismatched t of_row v

  -- a read is the typed read, or there is no memory
  abbrev pub TypedRead : {T : Type 0} → (T → A) → Reader A → Bool → Bool → AnyValue → Result T Fault → Type 0
  TypedRead seen t is_checked of_row value r = Reads seen (typed_read t is_checked of_row value.kind) r

-- the kind of truth values
abbrev pub is_bool : AnyTypeInfoKind → Bool
is_bool kind.Bool = true
is_bool _ = false

-- the kind of texts
abbrev pub is_text : AnyTypeInfoKind → Bool
is_text kind.Text = true
is_text _ = false

-- the kind of bytes
abbrev pub is_blob : AnyTypeInfoKind → Bool
is_blob kind.Blob = true
is_blob _ = false

-- a truth value
abbrev pub a_bool : Reader Bool
a_bool = record { called = codes "bool"; own = kind.Bool; takes = is_bool; read = read_bool }

-- a whole number of 16 bits
abbrev pub an_i16 : Reader ℤ
an_i16 = record { called = codes "i16"; own = kind.SmallInt; takes = is_whole_number; read = read_i16 }

-- a whole number of 32 bits
abbrev pub an_i32 : Reader ℤ
an_i32 = record { called = codes "i32"; own = kind.Integer; takes = is_whole_number; read = read_i32 }

-- a whole number of 64 bits
abbrev pub an_i64 : Reader ℤ
an_i64 = record { called = codes "i64"; own = kind.BigInt; takes = is_whole_number; read = read_i64 }

-- a text, by the name of its Rust type
abbrev pub a_text : List ℕ → Reader (List ℕ)
a_text name = record { called = name; own = kind.Text; takes = is_text; read = read_text }

-- bytes, by the name of their Rust type
abbrev pub a_blob : List ℕ → Reader (List ℕ)
a_blob name = record { called = name; own = kind.Blob; takes = is_blob; read = read_bytes }
