-- What the calls of a connection besides queries make of it, where they are done, and what a refused one leaves.
use Rattle.std.specs.Prelude.{◌≡◌, ◌⊎◌, ◌-◌, ℕ, true, false, nat_lt, if◌then◌else◌, List, Option, Some, None, Ok, Err}
use Rattle.sqlx_text.specs.declared.error.Error.{Error}
use Rattle.sqlx_text.specs.declared.error.Error.TheVariants as error
use Rattle.sqlx_traits.specs.Calls.{Call, Outcome, begin, commit, rollback, start_rollback, ping, Closing, told, at_once}
use Rattle.sqlx_traits.specs.Faults.{HasRisen}
use Rattle.sqlx_savepoints.specs.Texts.{begin_at, commit_at, rollback_at, text_of}
use Rattle.sqlite_base.specs.Ran.{RanOn, RefusedOn, Settled, Unsettled, in_transaction}
use Rattle.sqlite_base.specs.Closed.{HasClosed, RefusesClose}
use Rattle.sqlite_base.specs.declared.base.Base.{Base}
use Rattle.sqlite_driver.specs.declared.connection.SqliteConnection.{SqliteConnection}

-- what was noted is rolled back, and nothing is noted any more
abbrev pub Settles : SqliteConnection → SqliteConnection → Type 0
Settles before after = Settled before.goes_back_to before.base after.base × (after.goes_back_to ≡ None)

-- what was noted couldn't be rolled back, which is counted: it is still due
abbrev pub StaysDue : SqliteConnection → Error → SqliteConnection → Type 0
StaysDue before e after = Unsettled before.goes_back_to before.base after.base e × (after.goes_back_to ≡ before.goes_back_to) × HasRisen before.faults after.faults

-- what was noted is rolled back, and then the text ran
abbrev pub RunsText : List ℕ → SqliteConnection → SqliteConnection → Type 0
RunsText text before after = (settled : Base) × Settled before.goes_back_to before.base settled × RanOn text settled after.base × (after.goes_back_to ≡ None)

-- there was no memory for a text: the connection is as it was, but that what was noted may be rolled back
abbrev pub WantsText : SqliteConnection → Error → SqliteConnection → Type 0
WantsText before e after = (e ≡ error.OutOfMemory) × ((after ≡ before) ⊎ Settles before after)

-- what was noted is rolled back, and then the database refused the text, which is counted
abbrev pub DeniesText : List ℕ → SqliteConnection → Error → SqliteConnection → Type 0
DeniesText text before e after = (settled : Base) × Settled before.goes_back_to before.base settled × RefusedOn text settled after.base e
    × (after.goes_back_to ≡ None) × HasRisen before.faults after.faults

-- the text didn't run: what was noted is still due, or there was no memory for the text, or the database refused it
abbrev pub RefusesText : List ℕ → SqliteConnection → Error → SqliteConnection → Type 0
RefusesText text before e after = StaysDue before e after ⊎ (WantsText before e after ⊎ DeniesText text before e after)

-- the lower of what was noted and this depth
abbrev pub lower : Option ℕ → ℕ → ℕ
lower None depth = depth
lower (Some noted) depth = if nat_lt noted depth then noted else depth

-- the innermost level ended, and it is noted that it is to be rolled back
abbrev pub given_up : SqliteConnection → SqliteConnection
given_up conn = record conn { depth = conn.depth - 1; goes_back_to = Some (lower conn.goes_back_to (conn.depth - 1)) }

-- a level text that begins a level: it ran, or is refused
abbrev pub Begins : List ℕ → SqliteConnection → Outcome → SqliteConnection → Type 0
Begins text before (Ok done) after = RunsText text before after
Begins text before (Err e) after = RefusesText text before e after

-- a text that ran in place of a begin began no transaction, which is counted
abbrev pub BeginsNone : List ℕ → SqliteConnection → Error → SqliteConnection → Type 0
BeginsNone text before e after = (e ≡ error.BeginFailed) × RunsText text before after × (in_transaction after.base ≡ false) × HasRisen before.faults after.faults

-- a begin by a text of the caller's own: it ran, and a transaction is open; or it is refused, or ran and began none, or stands in a level, which changes nothing
abbrev pub BeginsBy : List ℕ → SqliteConnection → Outcome → SqliteConnection → Type 0
BeginsBy text before (Ok done) after = RunsText text before after × (in_transaction after.base ≡ true)
BeginsBy text before (Err e) after = RefusesText text before e after ⊎ (BeginsNone text before e after ⊎ ((e ≡ error.InvalidSavePointStatement) × (after ≡ before)))

-- a level text that ends a level: it ran; or it is refused, and then the level is given up
abbrev pub Ends : List ℕ → SqliteConnection → Outcome → SqliteConnection → Type 0
Ends text before (Ok done) after = RunsText text before after
Ends text before (Err e) after = (left : SqliteConnection) × RefusesText text before e left × (left.depth ≡ before.depth) × (after ≡ given_up left)

-- a ping rolls back what was noted, or is refused
abbrev pub Pings : SqliteConnection → Outcome → SqliteConnection → Type 0
Pings before (Ok done) after = Settles before after
Pings before (Err e) after = StaysDue before e after

-- what a call besides queries answers, and the connection after it; the last three do nothing
abbrev pub Does : Call → SqliteConnection → Outcome → SqliteConnection → Type 0
Does ping before outcome after = Pings before outcome after
Does (begin None) before outcome after = Begins (text_of (begin_at before.depth)) before outcome after
Does (begin (Some text)) before outcome after = BeginsBy text before outcome after
Does commit before outcome after = Ends (text_of (commit_at before.depth)) before outcome after
Does rollback before outcome after = Ends (text_of (rollback_at before.depth)) before outcome after
Does start_rollback before outcome after = after ≡ given_up before
Does _ before outcome after = (outcome ≡ Ok tt) × (after ≡ before)

-- closing copies the log beside a file into it, or tells why it couldn't; closing at once can't be refused
abbrev pub Closes : Closing → SqliteConnection → Outcome → Type 0
Closes told before (Ok done) = HasClosed before.base
Closes told before (Err e) = RefusesClose before.base e
Closes at_once before outcome = outcome ≡ Ok tt
