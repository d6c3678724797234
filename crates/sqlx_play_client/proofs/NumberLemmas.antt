-- Reading the number of a row of one.
use Rattle.std.proofs.Common.{◌≡◌, ◌⊎◌, inl, inr, false, ℕ, ℤ, [], ◌∷◌, length, codes, decimal, Result, Ok, Err, sym, ap, subst, ◌∙◌}
use Rattle.sqlx_text.specs.Kind.{is_whole_number, kind_name}
use Rattle.sqlx_text.specs.declared.error.Error.{Error}
use Rattle.sqlx_text.specs.declared.error.Error.TheVariants as error
use Rattle.sqlx_text.specs.declared.fault.Fault.{Fault}
use Rattle.sqlx_text.specs.declared.kind.AnyTypeInfoKind.TheVariants as kind
use Rattle.sqlx_traits.specs.Places.{at_place, place_of_position}
use Rattle.sqlx_traits.specs.Reads.{Checked, ReadAt, Reads, RowRead, column_error, with_error}
use Rattle.sqlx_query.specs.Mapping.{ReadsOne}
use Rattle.sqlx_any_values.specs.Kinds.{is_null_kind, kind_of}
use Rattle.sqlx_any.specs.Rows.{RowParts}
use Rattle.sqlx_any_values.specs.TypedRead.{read_i64}
use Rattle.sqlx_any_values.specs.declared.type_info.AnyTypeInfo.{AnyTypeInfo}
use Rattle.sqlx_any_values.specs.declared.value.AnyValue.{AnyValue}
use Rattle.sqlx_any_values.specs.declared.value.AnyValueKind.TheVariants.{BigInt}
use Rattle.mem_driver.specs.Answers.{value_of}
use Rattle.sqlx_play_client.specs.Bound.{ReadsNumber, ReadsRow}

-- the checked read of a value as a number of 64 bits
abbrev pub ChecksNumber : AnyValue → Result ℤ Fault → Type 0
ChecksNumber = Checked (λ (value : AnyValue). is_null_kind (kind_of value.kind)) (λ (value : AnyValue). record { kind = kind_of value.kind }) (λ (ty : AnyTypeInfo). is_null_kind ty.kind) (λ (ty : AnyTypeInfo). kind_name ty.kind)
    false (codes "i64") (record { kind = kind.BigInt }) (λ (ty : AnyTypeInfo). is_whole_number ty.kind) (λ (value : AnyValue) (r : Result ℤ Fault). Reads (λ n. n) (read_i64 value.kind) r)

-- the read of a row's first column as such a number
abbrev pub ReadsFirst : RowParts → Result ℤ Error → Type 0
ReadsFirst row r = RowRead (λ (row : RowParts). row.values) (λ (at : ℕ) (row : RowParts). place_of_position at (length row.columns)) (λ (at : ℕ). decimal at) row 0 ChecksNumber r

-- what is read of the number: itself, or want of memory
number_given : (n : ℤ) (answer : Result ℤ Fault) (r : Result ℤ Error) → Reads (λ n. n) (Ok n) answer → r ≡ with_error (column_error (decimal 0)) answer → (r ≡ Ok n) ⊎ (r ≡ Err error.OutOfMemory)
number_given n (Ok x) r reads is = let same : n ≡ x = cc in inl (is ∙ ap Ok (sym same))
number_given n (Err f) r (inl told) is = absurd cc
number_given n (Err f) r (inr wants) is = inr (is ∙ ap (λ f. Err (column_error (decimal 0) f)) wants)

first_given : (n : ℤ) (columns : ℕ) (r : Result ℤ Error) → columns ≡ 1 → read_i64 (BigInt n) ≡ Ok n
    → ReadAt (at_place (value_of n ∷ []) (place_of_position 0 columns)) ChecksNumber (decimal 0) r → (r ≡ Ok n) ⊎ (r ≡ Err error.OutOfMemory)
first_given n columns r one fits read =
    let read' : ReadAt (Ok (value_of n)) ChecksNumber (decimal 0) r = subst (λ c. ReadAt (at_place (value_of n ∷ []) (place_of_position 0 c)) ChecksNumber (decimal 0) r) one read in
    number_given n read'.0 r (subst (λ due. Reads (λ n. n) due read'.0) fits read'.1) read'.2

pub reads_number : (row : RowParts) (r : Result ℤ Error) → ReadsFirst row r → ReadsNumber row r
reads_number row r (inl wants) n is = inr wants
reads_number row r (inr read) n is =
    first_given n (length row.columns) r is.1 is.2 (subst (λ values. ReadAt (at_place values (place_of_position 0 (length row.columns))) ChecksNumber (decimal 0) r) is.0 read)

pub reads_row : (given : Result RowParts Error) (r : Result ℤ Error) → ReadsOne ReadsFirst given r → ReadsRow given r
reads_row (Ok row) r read = reads_number row r read
reads_row (Err e) r read = read
