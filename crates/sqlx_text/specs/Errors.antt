-- What can be read off an error.
use Rattle.std.specs.Prelude.{ℕ, Option, Some, None}
use Rattle.sqlx_text.specs.declared.database_fault.DatabaseFault.{DatabaseFault}
use Rattle.sqlx_text.specs.declared.error.Error.{Error}
use Rattle.sqlx_text.specs.declared.error.Error.TheVariants as error
use Rattle.sqlx_text.specs.declared.fault.Fault.{Fault}
use Rattle.sqlx_text.specs.declared.fault.Fault.TheVariants as fault

-- the number of a variant, from 1 in the order in which they are declared
abbrev pub number_of : Error → ℕ
number_of (error.Configuration _) = 1
number_of (error.InvalidArgument _) = 2
number_of (error.Database _) = 3
number_of (error.Io _) = 4
number_of (error.Protocol _) = 5
number_of error.RowNotFound = 6
number_of (error.TypeNotFound _) = 7
number_of (error.ColumnIndexOutOfBounds _ _) = 8
number_of (error.ColumnNotFound _) = 9
number_of (error.ColumnDecode _ _) = 10
number_of (error.Encode _) = 11
number_of (error.Decode _) = 12
number_of (error.AnyDriverError _) = 13
number_of error.PoolTimedOut = 14
number_of error.PoolClosed = 15
number_of error.InvalidSavePointStatement = 16
number_of error.BeginFailed = 17
number_of error.OutOfMemory = 18
number_of error.Exhausted = 19
number_of error.NotHeld = 20

-- the refusal of the database, where the error is one
abbrev pub database_fault_of : Error → Option DatabaseFault
database_fault_of (error.Database fault) = Some fault
database_fault_of _ = None

-- the error that wraps a fault, but want of memory is never wrapped
abbrev pub error_of : (Fault → Error) → Fault → Error
error_of wrap fault.OutOfMemory = error.OutOfMemory
error_of wrap given = wrap given
