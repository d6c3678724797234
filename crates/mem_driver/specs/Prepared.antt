-- What preparing a text gives, by the text alone.
use Rattle.std.specs.Prelude.{◌≡◌, ◌⊎◌, ℕ, List, [], Option, Some, None, Result, Ok, Err}
use Rattle.either.specs.declared.Either.TheVariants.{Right}
use Rattle.sqlx_text.specs.declared.error.Error.{Error}
use Rattle.sqlx_text.specs.declared.error.Error.TheVariants as error
use Rattle.sqlx_any.specs.Rows.{StatementParts}
use Rattle.sqlx_any_values.specs.declared.type_info.AnyTypeInfo.{AnyTypeInfo}
use Rattle.mem_store.specs.Errors.{error_of}
use Rattle.mem_store.specs.Statements.{read_statement}
use Rattle.mem_store.specs.declared.refusal.Refusal.TheVariants.{Unread}
use Rattle.mem_store.specs.declared.statement.Statement.{Statement}
use Rattle.mem_store.specs.declared.statement.Statement.TheVariants.{Put, Delete, Get, SelectAll, SelectOne}
use Rattle.mem_driver.specs.Answers.{columns_from, named_from, one_names, pair_names, value_names}
use Rattle.mem_driver.specs.Session.{Session, fault_counted}

-- how many arguments a statement takes
abbrev pub takes : Statement → ℕ
takes Put = 2
takes Delete = 1
takes Get = 1
takes _ = 0

-- the names of the columns of its rows
abbrev pub gives : Statement → List (List ℕ)
gives Get = value_names
gives SelectAll = pair_names
gives SelectOne = one_names
gives _ = []

-- a prepared statement: its text, the number of its arguments, its columns
abbrev pub prepared : List ℕ → Statement → StatementParts
prepared text statement = record { sql = text; parameters = Some (Right (takes statement)); names = named_from 0 (gives statement) []; columns = columns_from 0 (gives statement) }

-- prepared where the text is held, unless memory is wanting; and else refused, which is counted
abbrev pub PreparedAs : List ℕ → Option Statement → Session → Result StatementParts Error → Session → Type 0
PreparedAs text (Some statement) before result after = ((result ≡ Ok (prepared text statement)) ⊎ (result ≡ Err error.OutOfMemory)) × (after ≡ before)
PreparedAs text None before result after = (result ≡ Err (error_of Unread)) × (after ≡ fault_counted before)

-- what preparing a text gives; types of parameters change nothing
abbrev pub Prepares : Session → List ℕ → List AnyTypeInfo → Result StatementParts Error → Session → Type 0
Prepares before text parameters result after = PreparedAs text (read_statement text) before result after
