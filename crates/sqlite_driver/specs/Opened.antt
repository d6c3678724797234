-- What opening a database by a URL may give.
use Rattle.std.specs.Prelude.{◌≡◌, ◌⊎◌, Bool, true, false, None, Result, Ok, Err, IsTrue, codes}
use Rattle.std.specs.Str.{bytes_eq}
use Rattle.sqlite.specs.declared.error.Error.{Error as Cause}
use Rattle.sqlite.specs.Opening.{is_open_error}
use Rattle.sqlx_text.specs.declared.error.Error.{Error}
use Rattle.sqlx_text.specs.declared.error.Error.TheVariants as error
use Rattle.sqlx_text.specs.declared.fault.Fault.TheVariants as fault
use Rattle.sqlx_any_values.specs.Drivers.{of_scheme}
use Rattle.sqlx_any.specs.declared.options.AnyConnectOptions.{AnyConnectOptions}
pub use Rattle.sqlite_base.specs.OpenedBase.{table_text, HasTable, IsInMemory, IsFile}
use Rattle.sqlite_base.specs.Refusals.{IsRefusal, IsToldBy}
use Rattle.sqlite_base.specs.declared.base.Base.{Base}
use Rattle.sqlite_driver.specs.declared.connection.SqliteConnection.{SqliteConnection}

-- a URL of the scheme `sqlite`; another is refused as one that no driver has
abbrev pub own_scheme : AnyConnectOptions → Result (Unit {0}) Error
own_scheme options = of_scheme (codes "sqlite") options.database_url.scheme

-- whether the URL names a database in memory
abbrev pub names_memory : AnyConnectOptions → Bool
names_memory options = bytes_eq options.database_url.path (codes ":memory:")

-- the refusal of a file where only a database in memory can be opened
abbrev pub no_file : Error
no_file = error.Configuration (fault.Text (codes "a file is opened by `SqliteFiles`, and `sqlite::memory:` is a database in memory"))

-- a database in memory may be refused as its first statement is; anything else is refused by its URL
abbrev pub MemoryRefusal : Bool → Error → Type 0
MemoryRefusal true e = IsRefusal e
MemoryRefusal false e = e ≡ no_file

-- why opening is refused: by the URL's scheme, and else for one of these causes
abbrev pub RefusedBy : (Error → Type 0) → Result (Unit {0}) Error → Error → Type 0
RefusedBy causes (Ok done) e = causes e
RefusedBy causes (Err due) e = e ≡ due

-- no level is open, nothing is to be rolled back, and no refusal was counted
abbrev pub IsFresh : SqliteConnection → Type 0
IsFresh conn = (conn.depth ≡ 0) × (conn.goes_back_to ≡ None) × (conn.faults ≡ 0)

-- a database in memory, where the URL names one, and else a file
abbrev pub IsNamed : Bool → Base → Type 0
IsNamed true base = IsInMemory base
IsNamed false base = IsFile base

-- a new database in memory; another scheme than `sqlite` and a file are refused, and else it is a statement's refusal; or there is no memory
abbrev pub Opens : AnyConnectOptions → Result SqliteConnection Error → Type 0
Opens options (Ok conn) = (own_scheme options ≡ Ok tt) × (names_memory options ≡ true) × IsFresh conn × IsInMemory conn.base
Opens options (Err e) = (e ≡ error.OutOfMemory) ⊎ RefusedBy (MemoryRefusal (names_memory options)) (own_scheme options) e

-- a database in memory may be refused as its first statement is, and a file for a cause of the database's opening, which is told
abbrev pub NamedRefusal : Bool → Error → Type 0
NamedRefusal true e = IsRefusal e
NamedRefusal false e = (cause : Cause) × IsTrue (is_open_error cause) × IsToldBy cause e

-- a new database in memory or a file, as the URL names it; another scheme than `sqlite` is refused, and else it is the database's refusal; or there is no memory
abbrev pub OpensFile : {C : Type 0} → (C → SqliteConnection) → AnyConnectOptions → Result C Error → Type 0
OpensFile under options (Ok conn) = (own_scheme options ≡ Ok tt) × IsFresh (under conn) × IsNamed (names_memory options) (under conn).base
OpensFile under options (Err e) = (e ≡ error.OutOfMemory) ⊎ RefusedBy (NamedRefusal (names_memory options)) (own_scheme options) e
