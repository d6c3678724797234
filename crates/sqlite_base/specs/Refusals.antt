-- How a refusal is told.
use Rattle.std.specs.Prelude.{◌≡◌, ◌⊎◌, ⊤, ℕ, false, List, None, codes}
use Rattle.sqlite_schema.specs.declared.schema.Constraint.{Constraint}
use Rattle.sqlite_schema.specs.declared.schema.Constraint.TheVariants as rule
use Rattle.sqlite.specs.declared.error.Error.{Error as Cause}
use Rattle.sqlite.specs.declared.error.Error.TheVariants.{SqliteFailure}
use Rattle.sqlite.specs.declared.error.ErrorCode.TheVariants as code
use Rattle.sqlx_text.specs.declared.database_fault.DatabaseFault.{DatabaseFault}
use Rattle.sqlx_text.specs.declared.database_fault.ErrorKind.{ErrorKind}
use Rattle.sqlx_text.specs.declared.database_fault.ErrorKind.TheVariants as kind
use Rattle.sqlx_text.specs.declared.error.Error.{Error}
use Rattle.sqlx_text.specs.declared.error.Error.TheVariants as error
use Rattle.sqlx_text.specs.declared.fault.Fault.TheVariants as fault
use Rattle.sqlite_base.specs.declared.refusal.Refusal.{Refusal}
use Rattle.sqlite_base.specs.declared.refusal.Refusal.TheVariants as refusal

-- ---- the database's own

-- the kind by which a broken rule of a table is told
abbrev pub rule_kind : Constraint → ErrorKind
rule_kind rule.PrimaryKey = kind.UniqueViolation
rule_kind rule.Unique = kind.UniqueViolation
rule_kind rule.ForeignKey = kind.ForeignKeyViolation
rule_kind rule.NotNull = kind.NotNullViolation
rule_kind rule.Check = kind.CheckViolation
rule_kind rule.Datatype = kind.Other

-- the kind by which a refusal of the database is told: that of the rule that was broken, and `Other` for anything else
abbrev pub cause_kind : Cause → ErrorKind
cause_kind (SqliteFailure (code.ConstraintViolation broken)) = rule_kind broken
cause_kind _ = kind.Other

-- a refusal of the database with its message: its kind, and nothing of a code, a constraint or a table
abbrev pub told_fault : Cause → List ℕ → DatabaseFault
told_fault cause message = record { message = message; code = None; kind = cause_kind cause; transient = false; constraint = None; table = None }

-- a cause is told by its kind with some message, or there was no memory for the message
abbrev pub IsToldByKind : Cause → Error → Type 0
IsToldByKind cause e = ((message : List ℕ) × (e ≡ error.Database (told_fault cause message))) ⊎ (e ≡ error.OutOfMemory)

-- the database's want of memory is told as want of memory, and any other cause by its kind
abbrev pub IsToldBy : Cause → Error → Type 0
IsToldBy cause e = (cause ≡ SqliteFailure code.OutOfMemory → e ≡ error.OutOfMemory) × IsToldByKind cause e

-- ---- any

-- the error for a value that `Any` has no kind for
abbrev pub no_kind : Error
no_kind = error.AnyDriverError (fault.Text (codes "a value is neither a whole number nor a text, bytes or null"))

-- the error by which a refusal is told
abbrev pub refusal_error : Refusal → Error
refusal_error refusal.OutOfMemory = error.OutOfMemory
refusal_error (refusal.Database cause message) = error.Database (told_fault cause message)
refusal_error refusal.NoKind = no_kind

-- the refusal of a row that has no form in `Any`, or want of memory
abbrev pub IsUnfit : Error → Type 0
IsUnfit e = (e ≡ no_kind) ⊎ (e ≡ error.OutOfMemory)

-- the database's own refusal, told by the kind of its cause; that of a value for which there is no kind; or want of memory
abbrev pub IsRefusal : Error → Type 0
IsRefusal (error.Database fault) = (cause : Cause) × (fault ≡ told_fault cause fault.message)
IsRefusal (error.AnyDriverError fault) = error.AnyDriverError fault ≡ no_kind
IsRefusal error.OutOfMemory = ⊤
IsRefusal _ = ⊥
