-- What a text that ran made of a database, or why it was refused, in the words of the crate `sqlite`.
use Rattle.std.specs.Prelude.{◌≡◌, ◌⊎◌, ◌+◌, ℕ, Bool, false, [], List, Option, Some, None, Ok, Err}
use Rattle.sqlite_value.specs.Order.{Row}
use Rattle.sqlite.specs.declared.error.Error.{Error as Cause}
use Rattle.sqlite.specs.Files.{file_state}
use Rattle.sqlite.specs.Held.{state}
use Rattle.sqlite.specs.State.{Executes, HasCleanDisk, State}
use Rattle.sqlite.specs.Steps.{over_memory}
use Rattle.sqlx_text.specs.declared.error.Error.{Error}
use Rattle.sqlx_text.specs.declared.error.Error.TheVariants as error
use Rattle.sqlx_savepoints.specs.Texts.{rollback_at, text_of}
use Rattle.sqlite_base.specs.Refusals.{IsToldBy}
use Rattle.sqlite_base.specs.declared.base.Base.{Base}
use Rattle.sqlite_base.specs.declared.base.Base.TheVariants.{Memory, File}

-- a text without arguments was executed, where the disk has returned what was written
pub record Ran (text : List ℕ) (before after : State) : Type 0 where
  pub rows : ℕ
  pub executes : HasCleanDisk after → Executes text [] before after (Ok rows)

-- the same of a database in memory or in a file
abbrev pub RanOn : List ℕ → Base → Base → Type 0
RanOn text (Memory before) (Memory after) = Ran text (state over_memory before) (state over_memory after)
RanOn text (File before) (File after) = Ran text (file_state before) (file_state after)
RanOn text _ _ = ⊥

-- whether a transaction is open
abbrev pub in_transaction : Base → Bool
in_transaction (Memory conn) = conn.in_transaction
in_transaction (File conn) = conn.in_transaction

-- rolled back to this depth by its text, or untouched where no transaction is open
abbrev pub RolledBackTo : ℕ → Base → Base → Type 0
RolledBackTo depth before after = ((in_transaction before ≡ false) × (after ≡ before)) ⊎ RanOn (text_of (rollback_at (depth + 1))) before after

-- what was noted to be rolled back is
abbrev pub Settled : Option ℕ → Base → Base → Type 0
Settled None before after = after ≡ before
Settled (Some depth) before after = RolledBackTo depth before after

-- a text with these values was executed and refused for a cause, where the disk has returned what was written, and the error tells it
abbrev pub Refuses : List ℕ → Row → State → State → Error → Type 0
Refuses text values before after e = (cause : Cause) × (HasCleanDisk after → Executes text values before after (Err cause)) × IsToldBy cause e

-- the same of a text without arguments, on a database in memory or in a file
abbrev pub RefusedOn : List ℕ → Base → Base → Error → Type 0
RefusedOn text (Memory before) (Memory after) e = Refuses text [] (state over_memory before) (state over_memory after) e
RefusedOn text (File before) (File after) e = Refuses text [] (file_state before) (file_state after) e
RefusedOn text _ _ e = ⊥

-- the text that rolls back to this depth was refused, or there was no memory for it
abbrev pub RefusesRollback : ℕ → Base → Base → Error → Type 0
RefusesRollback depth before after e = (e ≡ error.OutOfMemory) ⊎ RefusedOn (text_of (rollback_at (depth + 1))) before after e

-- what was noted to be rolled back isn't
abbrev pub Unsettled : Option ℕ → Base → Base → Error → Type 0
Unsettled None before after e = ⊥
Unsettled (Some depth) before after e = RefusesRollback depth before after e
