-- The statements that the database holds, their texts, and how it reads a text.
use Rattle.std.specs.Prelude.{◌≡◌, ℕ, ◌≤◌, ◌<◌, ◌^◌, ◌&&◌, Bool, nat_lt, if◌then◌else◌, List, length, take, drop, slice_index, Option, Some, None, option_map, codes}
use Rattle.std.specs.Str.{all_ascii_digits, bytes_eq}
use Rattle.std.specs.Str.Parse.{digits_value}
use Rattle.sqlx_savepoints.specs.Texts.{text_of}
use Rattle.sqlx_savepoints.specs.declared.level_text.LevelText.{LevelText}
use Rattle.sqlx_savepoints.specs.declared.level_text.LevelText.TheVariants.{Begin, BeginImmediate, Commit, Rollback, Savepoint, Release, RollbackTo}
use Rattle.mem_store.specs.declared.statement.Statement.{Statement}
use Rattle.mem_store.specs.declared.statement.Statement.TheVariants.{Put, Delete, Get, SelectAll, SelectOne, Level}

-- the text of a statement
abbrev pub statement_text : Statement → List ℕ
statement_text Put = codes "INSERT INTO kv(k, v) VALUES (?, ?) ON CONFLICT(k) DO UPDATE SET v = excluded.v"
statement_text Delete = codes "DELETE FROM kv WHERE k = ?"
statement_text Get = codes "SELECT v FROM kv WHERE k = ?"
statement_text SelectAll = codes "SELECT k, v FROM kv ORDER BY k"
statement_text SelectOne = codes "SELECT 1"
statement_text (Level level) = text_of level

-- ---- how a text is read

-- what stands behind these words, where the text begins with them
abbrev pub behind : List ℕ → List ℕ → Option (List ℕ)
behind words text = if bytes_eq (take (length words) text) words then Some (drop (length words) text) else None

-- whether the digits write a number from 1 to 2^64 - 1, without a sign and a leading zero
abbrev pub is_savepoint_number : List ℕ → Bool
is_savepoint_number digits = nat_lt 48 (slice_index digits 0) && (all_ascii_digits digits && nat_lt (digits_value 10 digits) (2 ^ 64))

-- that number
unfoldable pub savepoint_number : List ℕ → Option ℕ
savepoint_number digits = if is_savepoint_number digits then Some (digits_value 10 digits) else None

-- the number of these digits, where there are some
abbrev pub number_of : Option (List ℕ) → Option ℕ
number_of None = None
number_of (Some digits) = savepoint_number digits

-- the number of the savepoint that is named behind these words
abbrev pub named_behind : List ℕ → List ℕ → Option ℕ
named_behind words text = number_of (behind words text)

-- the first that is there
abbrev pub either_of : {A : Type 0} → Option A → Option A → Option A
either_of (Some x) other = Some x
either_of None other = other

-- the level text that names a savepoint
abbrev pub read_named : List ℕ → Option LevelText
read_named text =
    either_of (option_map Savepoint (named_behind (codes "SAVEPOINT _sqlx_savepoint_") text))
    (either_of (option_map Release (named_behind (codes "RELEASE SAVEPOINT _sqlx_savepoint_") text))
    (option_map RollbackTo (named_behind (codes "ROLLBACK TO SAVEPOINT _sqlx_savepoint_") text)))

-- the level text
abbrev pub read_level : List ℕ → Option LevelText
read_level text =
    if bytes_eq text (codes "BEGIN") then Some Begin else
    if bytes_eq text (codes "BEGIN IMMEDIATE") then Some BeginImmediate else
    if bytes_eq text (codes "COMMIT") then Some Commit else
    if bytes_eq text (codes "ROLLBACK") then Some Rollback else read_named text

-- the statement of a text, none where the database holds no such text
abbrev pub read_statement : List ℕ → Option Statement
read_statement text =
    if bytes_eq text (statement_text Put) then Some Put else
    if bytes_eq text (statement_text Delete) then Some Delete else
    if bytes_eq text (statement_text Get) then Some Get else
    if bytes_eq text (statement_text SelectAll) then Some SelectAll else
    if bytes_eq text (statement_text SelectOne) then Some SelectOne else option_map Level (read_level text)

-- ---- what reads back

-- a savepoint's number that is read
abbrev pub IsNumber : ℕ → Type 0
IsNumber number = (1 ≤ number) × (number < 2 ^ 64)

-- a level text whose number, if it has one, is read
abbrev pub HasNumber : LevelText → Type 0
HasNumber (Savepoint number) = IsNumber number
HasNumber (Release number) = IsNumber number
HasNumber (RollbackTo number) = IsNumber number
HasNumber _ = Unit {0}

-- a statement that has a text of its own
abbrev pub IsHeld : Statement → Type 0
IsHeld (Level level) = HasNumber level
IsHeld _ = Unit {0}

-- the text is this statement's; or, for none, no statement's
abbrev pub Reads : List ℕ → Option Statement → Type 0
Reads text (Some statement) = IsHeld statement × (text ≡ statement_text statement)
Reads text None = read_statement text ≡ None

-- Each text that is a held statement's is read as that statement.
abbrev pub ReadsBack : Type 0
ReadsBack = (text : List ℕ) (read : Option Statement) → Reads text read → read_statement text ≡ read
