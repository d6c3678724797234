-- What the statements of an event come to on a client's connection.
use Rattle.std.specs.Prelude.{◌≡◌, ℤ, ℕ, ◌+◌, Bool, true, false, List, ◌∷◌}
use Rattle.sqlx_savepoints.specs.Changes.{Change, History, opens, commits, rolls_back}
use Rattle.sqlx_savepoints.specs.Brackets.{depth}
use Rattle.sqlx_savepoints.specs.Standing.{Standing, cleared, standing}
use Rattle.sqlx_savepoints.specs.Links.{linked_after, new_link}
use Rattle.sqlx_savepoints.specs.Links.{Link as BracketLink}
use Rattle.mem_store.specs.Store.{Store, Link}
use Rattle.sqlx_transfer_rules.specs.declared.bank_line.BankLine.{BankLine}
use Rattle.sqlx_transfer_rules.specs.declared.event.Event.{Event}
use Rattle.sqlx_transfer_rules.specs.declared.event.Event.TheVariants.{Commit, Undo}
use Rattle.sqlx_transfer_rules.specs.declared.reply.Reply.{Reply}
use Rattle.sqlx_transfer_rules.specs.declared.reply.Reply.TheVariants.{Deep, Level}
use Rattle.sqlx_transfer_rules.specs.Values.{valued}
use Rattle.sqlx_transfer.specs.At.{At}
use Rattle.sqlx_transfer.specs.Moving.{Moves}
use Rattle.sqlx_transfer.specs.declared.moving.Transfer.{Transfer}

-- a further level is begun, unless a hundred are open
abbrev pub Starts : Bool → History → (ℕ → BracketLink) → ℕ → ℕ → ℕ → Reply → Store → Link → Type 0
Starts true past o k n b reply store link = (reply ≡ Deep) × At past o k n b store link
Starts false past o k n b reply store link = (reply ≡ Level (depth k past + 1)) × At (opens k ∷ past) o k n (b + 1) store link

-- an amount is moved, unless a hundred levels are open
abbrev pub MovesIf : Bool → History → (ℕ → BracketLink) → ℕ → ℕ → ℕ → Transfer → ℤ → ℤ → Reply → Store → Link → Type 0
MovesIf true past o k n b t from to reply store link = (reply ≡ Deep) × At past o k n b store link
MovesIf false past o k n b t from to reply store link = Moves past o k n b t from to reply store link

-- how a level ends
abbrev pub ended : Bool → ℕ → Change
ended true k = commits k
ended false k = rolls_back k

-- the event that ends a level
abbrev pub ending : ℕ → Bool → Event
ending k true = Commit k
ending k false = Undo k

-- Every level was given up.
pub record DropsAll (o : ℕ → BracketLink) (k n b : ℕ) (line : BankLine) (things : List Standing) (store : Store) (link : Link) : Type 0 where
  pub after : History
  pub at : At after o k n b store link
  pub stands : standing after ≡ valued line (cleared k things)
  pub rests : (linked_after after).link k ≡ new_link
