-- The step lists that statements give.
use Rattle.std.specs.Prelude.{◌≡◌, ℕ, ◌+◌, ℤ, pos, ⊤, is_some, if◌then◌else◌, List, [], ◌∷◌, map, Option, Some, None, Ok, Err, codes}
use Rattle.std.specs.FinMap.{entries}
use Rattle.std.specs.List.{AllByRecursion}
use Rattle.either.specs.declared.Either.{Either}
use Rattle.either.specs.declared.Either.TheVariants.{Left, Right}
use Rattle.sqlx_text.specs.declared.error.Error.{Error}
use Rattle.sqlx_text.specs.declared.kind.AnyTypeInfoKind.TheVariants as kind
use Rattle.sqlx_traits.specs.StepList.{Steps}
use Rattle.sqlx_any_values.specs.Names.{Names, with_position}
use Rattle.sqlx_any.specs.Rows.{RowParts}
use Rattle.sqlx_any_values.specs.TypedRead.{read_i64}
use Rattle.sqlx_any.specs.declared.column.AnyColumn.{AnyColumn}
use Rattle.sqlx_any_values.specs.declared.query_result.AnyQueryResult.{AnyQueryResult}
use Rattle.sqlx_any_values.specs.declared.value.AnyValue.{AnyValue}
use Rattle.sqlx_any_values.specs.declared.value.AnyValueKind.TheVariants.{BigInt}
use Rattle.mem_store.specs.Store.{Session as Work}
use Rattle.mem_store.specs.Acts.{rows_seen, seen_by}
use Rattle.mem_store.specs.declared.act.Act.{Act}
use Rattle.mem_store.specs.declared.act.Act.TheVariants.{Put, Delete, Get, SelectAll, SelectOne, Level}

-- what a statement gives
abbrev pub Answers : Type 0
Answers = Steps AnyQueryResult RowParts Error

-- a result or a row
abbrev pub Item : Type 0
Item = Either AnyQueryResult RowParts

-- items without an error behind them
abbrev pub oks : List Item → Answers
oks items = map Ok items

-- ---- rows

-- a column of whole numbers, at its position
abbrev pub column_at : ℕ → List ℕ → AnyColumn
column_at position name = record { ordinal = position; name = name; type_info = record { kind = kind.BigInt } }

-- the columns of these names, the first at this position
abbrev pub columns_from : ℕ → List (List ℕ) → List AnyColumn
columns_from position [] = []
columns_from position (name ∷ names) = column_at position name ∷ columns_from (position + 1) names

-- these names behind others, each with its position
abbrev pub named_from : ℕ → List (List ℕ) → Names → Names
named_from position [] before = before
named_from position (name ∷ names) before = named_from (position + 1) names (with_position before name position)

-- a value of a row
abbrev pub value_of : ℤ → AnyValue
value_of number = record { kind = BigInt number }

-- a row of whole numbers under these names
abbrev pub row_of : List (List ℕ) → List ℤ → RowParts
row_of names numbers = record { names = named_from 0 names []; columns = columns_from 0 names; values = map value_of numbers }

-- the names of the columns of the three that read
abbrev pub value_names : List (List ℕ)
value_names = codes "v" ∷ []

-- the names of the columns of a key and its value
abbrev pub pair_names : List (List ℕ)
pair_names = codes "k" ∷ codes "v" ∷ []

-- the name of the column that `SELECT 1` gives
abbrev pub one_names : List (List ℕ)
one_names = codes "1" ∷ []

-- ---- step lists

-- a result of so many rows
abbrev pub result_of : ℕ → AnyQueryResult
result_of rows = record { rows_affected = rows; last_insert_id = None }

-- so many rows written, and no row
abbrev pub done : ℕ → Answers
done rows = Ok (Left (result_of rows)) ∷ []

-- these rows, and then a result of no row
abbrev pub listed : List RowParts → Answers
listed [] = done 0
listed (row ∷ rows) = Ok (Right row) ∷ listed rows

-- the row of a value that was found
abbrev pub found : Option ℤ → List RowParts
found None = []
found (Some value) = row_of value_names (value ∷ []) ∷ []

-- the row of a key and its value
abbrev pub pair_row : ℤ × ℤ → RowParts
pair_row pair = row_of pair_names (pair.0 ∷ pair.1 ∷ [])

-- what an act that isn't refused gives
abbrev pub steps_of : Act → Work → Answers
steps_of (Put key value) work = done 1
steps_of (Delete key) work = done (if is_some (seen_by key work) then 1 else 0)
steps_of (Get key) work = listed (found (seen_by key work))
steps_of SelectAll work = listed (map pair_row (entries (rows_seen work)))
steps_of SelectOne work = listed (row_of one_names (pos 1 ∷ []) ∷ [])
steps_of (Level level) work = done 0

-- an error and nothing before it
abbrev pub only_error : Error → Answers
only_error e = Err e ∷ []

-- ---- numbers of 64 bits

-- the value is a whole number that a read as i64 gives
abbrev pub IsI64 : AnyValue → Type 0
IsI64 value = (n : ℤ) × (value ≡ value_of n) × (read_i64 (BigInt n) ≡ Ok n)

-- each value of each row is a number of 64 bits
abbrev pub RowsFit : Answers → Type 0
RowsFit [] = ⊤
RowsFit (Ok (Right row) ∷ rest) = AllByRecursion IsI64 row.values × RowsFit rest
RowsFit (Ok (Left result) ∷ rest) = RowsFit rest
RowsFit (Err e ∷ rest) = RowsFit rest
