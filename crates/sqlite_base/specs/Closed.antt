-- What closing a database leaves of its files, or why it was refused, in the words of the crate `sqlite`.
use Rattle.std.specs.Prelude.{◌≡◌, ⊤}
use Rattle.sqlite.specs.declared.error.Error.{Error as Cause}
use Rattle.sqlite.specs.declared.file.Leftover.TheVariants as left
use Rattle.sqlite.specs.Closing.{IsCopied, files_left}
use Rattle.sqlite.specs.Files.{FailsToClose, IsClosed, IsCleanLeft, file_state}
use Rattle.sqlite.specs.State.{HasCleanDisk, store_error}
use Rattle.sqlx_text.specs.declared.error.Error.{Error}
use Rattle.sqlite_base.specs.Refusals.{IsToldBy}
use Rattle.sqlite_base.specs.declared.base.Base.{Base}
use Rattle.sqlite_base.specs.declared.base.Base.TheVariants.{Memory, File}

-- a value, of the type of another
abbrev pub like : {A : Type 0} → A → A → A
like other value = value

-- the connection was closed and left two files, and where they have returned what was written its last commit is in the database file, which needs no log
abbrev pub HasClosed : Base → Type 0
HasClosed (Memory conn) = ⊤
HasClosed (File conn) = (last : _) × (files : _) × IsClosed conn last × (files_left (left.Store last) ≡ files_left (like (left.Store last) (left.Files files))) × (IsCleanLeft (like (left.Store last) (left.Files files)) → IsCopied conn files)

-- a failure of the store is why the log wasn't copied, with its excuse where the disk has returned what was written, and the error tells it; a database in memory is always closed
abbrev pub RefusesClose : Base → Error → Type 0
RefusesClose (Memory conn) e = ⊥
RefusesClose (File conn) e = (cause : Cause) × ((failure : _) × (cause ≡ store_error failure)) × ((last : _) × IsClosed conn last × (HasCleanDisk (file_state (record conn { store = last })) → FailsToClose conn last cause)) × IsToldBy cause e
