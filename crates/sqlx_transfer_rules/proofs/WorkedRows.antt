-- Worked scripts: what their events are answered, by computing the definitions.
use Rattle.std.proofs.Common.{◌≡◌, ℤ, pos, List, map, [], ◌∷◌, refl}
use Rattle.sqlx_transfer_rules.specs.declared.bank_line.BankLine.{BankLine}
use Rattle.sqlx_transfer_rules.specs.declared.event.Event.{Event}
use Rattle.sqlx_transfer_rules.specs.declared.event.Event.TheVariants.{Start, Move, Commit, Undo, Drop, Show}
use Rattle.sqlx_transfer_rules.specs.declared.event.Met.TheVariants.{Accepted, SecondRefused}
use Rattle.sqlx_transfer_rules.specs.declared.reply.Reply.{Reply}
use Rattle.sqlx_transfer_rules.specs.declared.reply.Reply.TheVariants.{Full, Level, NoConnection, Insufficient, Overflow, Fault, Busy, Moved, Dropped, Balance}
use Rattle.sqlx_player.specs.Output.{pairs_after}
use Rattle.sqlx_transfer_rules.specs.Transfers.{history_after, connected_after, total_of}
use Rattle.sqlx_transfer_rules.specs.Rules.{transfer_rules}

-- the replies to events, and the total behind them
abbrev told : BankLine → List Event → List Reply × ℤ
told bank events = let pairs = pairs_after transfer_rules bank [] events in (map (λ (pair : Event × Reply). pair.1) pairs, total_of bank pairs bank.accounts)

-- an inner level is undone, and another client waits with its writes
two_clients : told (record { accounts = 2; max = 2; opening = 100 }) (
    Start 1 ∷ Move 1 1 2 30 Accepted ∷ Start 1 ∷ Move 1 2 1 130 Accepted ∷ Undo 1 ∷ Start 2 ∷ Move 2 1 2 5 Accepted ∷ Commit 1 ∷ Show 1 ∷
    Move 2 1 2 71 Accepted ∷ Move 2 1 2 70 SecondRefused ∷ Move 2 1 2 70 Accepted ∷ Drop 2 ∷ Show 2 ∷ []) ≡ (
      Level 1 ∷ Moved ∷ Level 2 ∷ Moved ∷ Level 1 ∷ Level 1 ∷ Busy ∷ Level 0 ∷ Balance (pos 70) ∷
          Insufficient ∷ Fault ∷ Moved ∷ Dropped ∷ Balance (pos 130) ∷ [],
      pos 200,
    )
unfolding pairs_after history_after connected_after total_of
two_clients = refl

-- no sum passes the greatest balance
no_overflow : told (record { accounts = 2; max = 1; opening = 9223372036854775807 }) (
    Start 1 ∷ Start 2 ∷ Move 2 1 2 1 Accepted ∷ Move 1 1 2 1 Accepted ∷ Commit 1 ∷ Commit 1 ∷ []) ≡ (
      Level 1 ∷ Full ∷ NoConnection ∷ Overflow ∷ Level 0 ∷ NoConnection ∷ [],
      pos 18446744073709551614,
    )
unfolding pairs_after history_after connected_after total_of
no_overflow = refl
