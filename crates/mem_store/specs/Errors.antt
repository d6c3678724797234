-- Refusals as errors.
use Rattle.std.specs.Prelude.{false, None, List, ℕ, codes}
use Rattle.sqlx_text.specs.declared.error.Error.{Error}
use Rattle.sqlx_text.specs.declared.error.Error.TheVariants.{Database, Io}
use Rattle.sqlx_text.specs.declared.database_fault.ErrorKind.TheVariants.{Other as OtherKind}
use Rattle.sqlx_text.specs.declared.io_fault.IoFault.TheVariants.{Other}
use Rattle.mem_store.specs.declared.refusal.Refusal.{Refusal}
use Rattle.mem_store.specs.declared.refusal.Refusal.TheVariants.{Fault, Refused, Unread, Deep, Busy}

-- a refusal of the database by its message alone
abbrev pub database_error : List ℕ → Error
database_error message = Database (record { message = message; code = None; kind = OtherKind; transient = false; constraint = None; table = None })

-- the error by which a refusal is told
abbrev pub error_of : Refusal → Error
error_of Fault = Io Other
error_of Refused = database_error (codes "refused")
error_of Unread = database_error (codes "unread")
error_of Deep = database_error (codes "deep")
error_of Busy = database_error (codes "busy")
