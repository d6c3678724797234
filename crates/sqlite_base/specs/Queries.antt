-- What a text gives with its arguments, or why it is refused: in the words of the crate `sqlite`, where the disk has returned what was written.
use Rattle.std.specs.Prelude.{◌≡◌, ◌⊎◌, ℕ, pos, Bool, true, false, if◌then◌else◌, List, [], ◌∷◌, ◌++◌, length, map, Option, Some, None, Ok, Err}
use Rattle.either.specs.declared.Either.{Either}
use Rattle.either.specs.declared.Either.TheVariants.{Left, Right}
use Rattle.sqlite_value.specs.declared.value.Value.{Value}
use Rattle.sqlite_value.specs.declared.value.Value.TheVariants as value
use Rattle.sqlite_value.specs.Order.{Row, column}
use Rattle.sqlite.specs.declared.error.Error.{Error as Cause}
use Rattle.sqlite.specs.declared.error.Error.TheVariants.{ExecuteReturnedResults}
use Rattle.sqlite.specs.Files.{file_state}
use Rattle.sqlite.specs.Held.{state}
use Rattle.sqlite.specs.Listing.{understood}
use Rattle.sqlite.specs.Outline.{Outline}
use Rattle.sqlite.specs.State.{Executes, FailsToQuery, HasCleanDisk, IsNotRun, IsUnchanged, Shown, State}
use Rattle.sqlite.specs.Steps.{Outlines, over_memory}
use Rattle.sqlx_text.specs.declared.error.Error.{Error}
use Rattle.sqlx_text.specs.declared.kind.AnyTypeInfoKind.TheVariants as null
use Rattle.sqlx_any_values.specs.Kinds.{kind_of}
use Rattle.sqlx_any_values.specs.Names.{with_position}
use Rattle.sqlx_any.specs.Rows.{RowParts}
use Rattle.sqlx_any.specs.declared.arguments.AnyArguments.{AnyArguments}
use Rattle.sqlx_any_values.specs.declared.query_result.AnyQueryResult.{AnyQueryResult}
use Rattle.sqlx_any_values.specs.declared.value.AnyValueKind.{AnyValueKind}
use Rattle.sqlx_any_values.specs.declared.value.AnyValueKind.TheVariants as kind
use Rattle.sqlite_base.specs.Refusals.{IsToldBy, no_kind}
use Rattle.sqlite_base.specs.declared.base.Base.{Base}
use Rattle.sqlite_base.specs.declared.base.Base.TheVariants.{Memory, File}

-- ---- values

-- a value as the database takes it: a truth value as a number
abbrev pub taken : AnyValueKind → Value
taken (kind.Null _) = value.Null
taken (kind.Bool b) = value.Int (if b then pos 1 else pos 0)
taken (kind.SmallInt n) = value.Int n
taken (kind.Integer n) = value.Int n
taken (kind.BigInt n) = value.Int n
taken (kind.Text text) = value.Text text
taken (kind.TextSlice text) = value.Text text
taken (kind.Blob bytes) = value.Blob bytes

-- the values of arguments as the database takes them, none where there is no list of them
abbrev pub all_taken : Option AnyArguments → Row
all_taken None = []
all_taken (Some arguments) = map taken arguments.values

-- a value of the database as one of `Any`, where it is one
abbrev pub given : Value → Option AnyValueKind
given value.Null = Some (kind.Null null.Null)
given (value.Int n) = Some (kind.BigInt n)
given (value.Real x) = None
given (value.Text text) = Some (kind.Text text)
given (value.Blob bytes) = Some (kind.Blob bytes)

-- ---- rows

-- an item of a step list: a result or a row
abbrev pub Item : Type 0
Item = Either AnyQueryResult RowParts

-- a row without cells
abbrev pub no_cells : RowParts
no_cells = record { names = []; columns = []; values = [] }

-- the row with one more cell, in a column of this name and of the value's kind
abbrev pub with_cell : RowParts → List ℕ → AnyValueKind → RowParts
with_cell row name cell = record {
  names = with_position row.names name (length row.values);
  columns = row.columns ++ record { ordinal = length row.values; name = name; type_info = record { kind = kind_of cell } } ∷ [];
  values = row.values ++ record { kind = cell } ∷ [];
}

-- the second row is the first with the next of the database's values under a name, null where there is none
abbrev pub GainsCell : Row → List ℕ → RowParts → RowParts → Type 0
GainsCell values name before after = (cell : AnyValueKind) × (given (column values (length before.values)) ≡ Some cell) × (after ≡ with_cell before name cell)

-- the same under each of the names, one after the other
abbrev pub GainsCells : Row → List (List ℕ) → RowParts → RowParts → Type 0
GainsCells values [] before after = after ≡ before
GainsCells values (name ∷ names) before after = (next : RowParts) × GainsCell values name before next × GainsCells values names next after

-- these are the first items with each of the database's rows behind them, its values under the names
abbrev pub GainsRows : List (List ℕ) → List Row → List Item → List Item → Type 0
GainsRows names [] before after = after ≡ before
GainsRows names (values ∷ later) before after = (row : RowParts) × GainsCells values names no_cells row × GainsRows names later (before ++ Right row ∷ []) after

-- ---- queries

-- the cause for which a text isn't executed that gives rows
abbrev pub tells_of_rows : Cause → Bool
tells_of_rows ExecuteReturnedResults = true
tells_of_rows _ = false

-- a text with these values gives rows: it wasn't executed for that, where the disk has returned what was written
abbrev pub HasRows : List ℕ → Row → State → State → Type 0
HasRows text values before after = (cause : Cause) × (tells_of_rows cause ≡ true) × (HasCleanDisk after → Executes text values before after (Err cause))

-- a statement that gives rows gives no count
abbrev pub no_count : AnyQueryResult
no_count = record { rows_affected = 0; last_insert_id = None }

-- the text was prepared, which changed nothing, and this is told of it
abbrev pub IsPrepared : List ℕ → State → State → Outline → Type 0
IsPrepared text before after outline = HasCleanDisk after → (IsUnchanged before after × (outline.text ≡ text)) × Outlines (understood before.now.schema text) outline

-- by what a connection shows, these items are the rows of a text with these values, under its columns' names, and a result without a count
abbrev pub GivesRows : {C : Type 0} → (C → State) → List ℕ → Row → C → C → List Item → Type 0
GivesRows {C = C} state text values before after items = (outline : Outline) × (prepared : C) × (rows : List Row) × (shown : List Item)
    × IsPrepared text (state before) (state prepared) outline × (HasCleanDisk (state after) → Shown text values (state prepared) (state after) rows)
    × GainsRows outline.columns rows [] shown × (items ≡ shown ++ Left no_count ∷ [])

-- likewise how many rows a text changed, and the number of the last row that was inserted
abbrev pub GivesCount : {C : Type 0} → (C → State) → List ℕ → Row → C → C → List Item → Type 0
GivesCount state text values before after items = (count : ℕ) × (HasCleanDisk (state after) → Executes text values (state before) (state after) (Ok count))
    × (items ≡ Left (record { rows_affected = count; last_insert_id = Some (state after).last_rowid }) ∷ [])

-- these items are what a text with these values gives: of one that gives rows its rows, of any other its count
abbrev pub Gives : {C : Type 0} → (C → State) → List ℕ → Row → C → C → List Item → Type 0
Gives {C = C} state text values before after items = GivesCount state text values before after items
    ⊎ ((asked : C) × HasRows text values (state before) (state asked) × GivesRows state text values asked after items)

-- the same of a database in memory or in a file
abbrev pub GivesOn : List ℕ → Row → Base → Base → List Item → Type 0
GivesOn text values (Memory before) (Memory after) items = Gives (state over_memory) text values before after items
GivesOn text values (File before) (File after) items = Gives file_state text values before after items
GivesOn text values _ _ items = ⊥

-- ---- refused queries

-- a text was refused for a cause before it ran, where the disk has returned what was written, and the error tells it
abbrev pub RefusesToPrepare : List ℕ → State → State → Error → Type 0
RefusesToPrepare text before after e = (cause : Cause) × (HasCleanDisk after → (values : Row) × IsNotRun before after text values cause) × IsToldBy cause e

-- the rows of a text with these values can't be shown, likewise
abbrev pub RefusesToShow : List ℕ → Row → State → State → Error → Type 0
RefusesToShow text values before after e = (cause : Cause) × (HasCleanDisk after → FailsToQuery text values before after cause) × IsToldBy cause e

-- the rows of a text with these values are shown, and the error tells of one that it has no form in `Any`
abbrev pub ShowsUnfit : List ℕ → Row → State → State → Error → Type 0
ShowsUnfit text values before after e = (rows : List Row) × (HasCleanDisk after → Shown text values before after rows) × (e ≡ no_kind)

-- a text with these values isn't executed, for another cause than that it gives rows, likewise
abbrev pub RefusesToExecute : List ℕ → Row → State → State → Error → Type 0
RefusesToExecute text values before after e = (cause : Cause) × (tells_of_rows cause ≡ false) × (HasCleanDisk after → Executes text values before after (Err cause)) × IsToldBy cause e

-- by what a connection shows, a text with these values is refused as it is prepared, or after that as its rows are shown or told
abbrev pub RefusesRows : {C : Type 0} → (C → State) → List ℕ → Row → C → C → Error → Type 0
RefusesRows {C = C} state text values before after e = RefusesToPrepare text (state before) (state after) e
    ⊎ ((outline : Outline) × (prepared : C) × IsPrepared text (state before) (state prepared) outline
    × (RefusesToShow text values (state prepared) (state after) e ⊎ ShowsUnfit text values (state prepared) (state after) e))

-- a text with these values is refused as it is executed, or, where it gives rows, as these are asked for
abbrev pub RefusesQuery : {C : Type 0} → (C → State) → List ℕ → Row → C → C → Error → Type 0
RefusesQuery {C = C} state text values before after e = RefusesToExecute text values (state before) (state after) e
    ⊎ ((asked : C) × HasRows text values (state before) (state asked) × RefusesRows state text values asked after e)

-- the same of a database in memory or in a file
abbrev pub RefusesQueryOn : List ℕ → Row → Base → Base → Error → Type 0
RefusesQueryOn text values (Memory before) (Memory after) e = RefusesQuery (state over_memory) text values before after e
RefusesQueryOn text values (File before) (File after) e = RefusesQuery file_state text values before after e
RefusesQueryOn text values _ _ e = ⊥
