-- The laws of transfers.
use Rattle.std.specs.Prelude.{◌≡◌, ℕ, ◌*◌, pos, true, List, [], All}
use Rattle.sqlx_lines.specs.Scripts.{Script, IsScript}
use Rattle.sqlx_player.specs.Output.{pairs_after, closing_text}
use Rattle.sqlx_transfer_rules.specs.declared.bank_line.BankLine.{BankLine}
use Rattle.sqlx_transfer_rules.specs.declared.event.Event.{Event}
use Rattle.sqlx_transfer_rules.specs.Grammar.{is_in_range}
use Rattle.sqlx_transfer_rules.specs.Transfers.{total_of}
use Rattle.sqlx_transfer_rules.specs.Rules.{transfer_grammar, transfer_rules}
use Rattle.sqlx_transfer_rules.specs.Texts.{total_text}

-- the accounts of the event are among those of the bank
abbrev pub IsOfBank : BankLine → Event → Type 0
IsOfBank bank event = is_in_range bank.accounts event ≡ true

-- for every list of events of a bank, each with its answer, the committed balances add up to as many opening balances as there are accounts
abbrev pub TotalStays : Type 0
TotalStays = (bank : BankLine) (events : List Event) → All (IsOfBank bank) events
    → total_of bank (pairs_after transfer_rules bank [] events) bank.accounts ≡ pos (bank.accounts * bank.opening)

-- so the closing line of every script tells what the accounts held at first
abbrev pub ClosesWithTheOpening : Type 0
ClosesWithTheOpening = (bytes : List ℕ) (script : Script BankLine Event) → IsScript transfer_grammar bytes script
    → closing_text transfer_rules script ≡ total_text (pos (script.first.accounts * script.first.opening))
