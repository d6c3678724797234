-- The reply to each event, and the language of transfers.
use Rattle.std.specs.Prelude.{ℕ, ◌+◌, ◌-◌, ◌==◌, ◌&&◌, not, nat_lt, nat_le, pos, ◌+ℤ◌, int_lt, if◌then◌else◌}
use Rattle.sqlx_player.specs.Language.{Language, Rules, Pairs}
use Rattle.sqlx_lines.specs.Scripts.{Grammar}
use Rattle.sqlx_transfer_rules.specs.declared.bank_line.BankLine.{BankLine}
use Rattle.sqlx_transfer_rules.specs.declared.event.Event.{Event}
use Rattle.sqlx_transfer_rules.specs.declared.event.Event.TheVariants.{Start, Move, Commit, Undo, Drop, Show}
use Rattle.sqlx_transfer_rules.specs.declared.event.Met.{Met}
use Rattle.sqlx_transfer_rules.specs.declared.event.Met.TheVariants.{Accepted, FirstRefused, SecondRefused}
use Rattle.sqlx_transfer_rules.specs.declared.reply.Reply.{Reply}
use Rattle.sqlx_transfer_rules.specs.declared.reply.Reply.TheVariants.{Full, Deep, Level, NoConnection, Insufficient, Overflow, Fault, Busy, Moved, Dropped, Balance}
use Rattle.sqlx_transfer_rules.specs.Grammar.{event_at, opening_of}
use Rattle.sqlx_transfer_rules.specs.Texts.{text_of, total_text}
use Rattle.sqlx_transfer_rules.specs.Transfers.{seen, balance, total_of, depth_of, has_connection, others_connected}

-- the greatest balance
abbrev pub greatest : ℕ
greatest = 9223372036854775807

-- the reply to a start
abbrev pub start_reply : BankLine → ℕ → Pairs Event Reply → Reply
start_reply bank k pairs =
    if not (has_connection k pairs) && nat_le bank.max (others_connected k pairs) then Full else
    if depth_of k pairs == 100 then Deep else
    Level (depth_of k pairs + 1)

-- the reply to a move that has the amounts, by what meets it and by how many others have a connection
abbrev pub move_met : Met → ℕ → Reply
move_met FirstRefused others = Fault
move_met SecondRefused others = if nat_lt 0 others then Busy else Fault
move_met Accepted others = if nat_lt 0 others then Busy else Moved

-- the reply to a move
abbrev pub move_reply : BankLine → ℕ → ℕ → ℕ → ℕ → Met → Pairs Event Reply → Reply
move_reply bank k x y n met pairs =
    if not (has_connection k pairs) then NoConnection else
    if depth_of k pairs == 100 then Deep else
    if int_lt (seen bank k pairs x) (pos n) then Insufficient else
    if int_lt (pos greatest) (seen bank k pairs y +ℤ pos n) then Overflow else
    move_met met (others_connected k pairs)

-- the reply to what ends a level
abbrev pub ended_reply : ℕ → Pairs Event Reply → Reply
ended_reply k pairs = if has_connection k pairs then Level (depth_of k pairs - 1) else NoConnection

-- the reply to an event behind these events and replies
abbrev pub answer : BankLine → Pairs Event Reply → Event → Reply
answer bank pairs (Start k) = start_reply bank k pairs
answer bank pairs (Move k x y n met) = move_reply bank k x y n met pairs
answer bank pairs (Commit k) = ended_reply k pairs
answer bank pairs (Undo k) = ended_reply k pairs
answer bank pairs (Drop k) = if has_connection k pairs then Dropped else NoConnection
answer bank pairs (Show x) = Balance (balance bank pairs x)

-- the grammar of transfers
abbrev pub transfer_grammar : Grammar BankLine Event
transfer_grammar = record {
  first_of = opening_of;
  event_of = λ bank done line. event_at bank.accounts line;
}

-- the rules of transfers
abbrev pub transfer_rules : Rules BankLine Event Reply
transfer_rules = record {
  answer = answer;
  text_of = text_of;
  closing = λ bank pairs. total_text (total_of bank pairs bank.accounts);
}

-- the language of transfers and its rules
abbrev pub transfer_language : Language BankLine Event Reply
transfer_language = record { grammar = transfer_grammar; rules = transfer_rules }
