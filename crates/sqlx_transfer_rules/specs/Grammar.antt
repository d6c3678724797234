-- What each line of a script of transfers says.
use Rattle.std.specs.Prelude.{ℕ, ◌<◌, ◌≤◌, ◌^◌, ◌==◌, ◌&&◌, Bool, not, true, nat_le, List, codes, if◌then◌else◌, Option, Some, None}
use Rattle.std.specs.Str.{bytes_eq}
use Rattle.sqlx_lines.specs.Words.{whole}
use Rattle.sqlx_lines.specs.Numbers.{number_in, name_number, any}
use Rattle.sqlx_lines.specs.Rows.{row, ended}
use Rattle.sqlx_transfer_rules.specs.declared.bank_line.BankLine.{BankLine}
use Rattle.sqlx_transfer_rules.specs.declared.event.Event.{Event}
use Rattle.sqlx_transfer_rules.specs.declared.event.Event.TheVariants.{Start, Move, Commit, Undo, Drop, Show}
use Rattle.sqlx_transfer_rules.specs.declared.event.Met.{Met}
use Rattle.sqlx_transfer_rules.specs.declared.event.Met.TheVariants.{Accepted, FirstRefused, SecondRefused}

-- `+`, `1` or `2`
abbrev pub met_of : List ℕ → Option Met
met_of word =
    if bytes_eq word (codes "+") then Some Accepted else
    if bytes_eq word (codes "1") then Some FirstRefused else
    if bytes_eq word (codes "2") then Some SecondRefused else
    None

-- the number of an account, of which a bank has 1,000 at most
abbrev pub account : List ℕ → Option ℕ
account = number_in 1 1001

-- ---- lines

-- `start k`
unfoldable pub start_words : List (List ℕ) → Option Event
start_words = row name_number (λ k. ended (Start k))

-- `move k x y n a`
unfoldable pub move_words : List (List ℕ) → Option Event
move_words = row name_number (λ k. row account (λ x. row account (λ y. row (number_in 1 (2 ^ 63)) (λ n. row met_of (λ a. ended (Move k x y n a))))))

-- `commit k`
unfoldable pub commit_words : List (List ℕ) → Option Event
commit_words = row name_number (λ k. ended (Commit k))

-- `undo k`
unfoldable pub undo_words : List (List ℕ) → Option Event
undo_words = row name_number (λ k. ended (Undo k))

-- `drop k`
unfoldable pub drop_words : List (List ℕ) → Option Event
drop_words = row name_number (λ k. ended (Drop k))

-- `show x`
unfoldable pub show_words : List (List ℕ) → Option Event
show_words = row account (λ x. ended (Show x))

-- what follows the name of what ends levels, of a move or of a show
unfoldable pub other_fields : List ℕ → List (List ℕ) → Option Event
other_fields name fields =
    if bytes_eq name (codes "move") then move_words fields else
    if bytes_eq name (codes "undo") then undo_words fields else
    if bytes_eq name (codes "drop") then drop_words fields else
    if bytes_eq name (codes "show") then show_words fields else
    None

-- what follows each name
abbrev pub fields_of : List ℕ → List (List ℕ) → Option Event
fields_of name fields =
    if bytes_eq name (codes "start") then start_words fields else
    if bytes_eq name (codes "commit") then commit_words fields else
    other_fields name fields

-- what a line after the first says by itself
unfoldable pub event_words : List (List ℕ) → Option Event
event_words = row any fields_of

-- whether an account is one of so many
abbrev pub is_account : ℕ → ℕ → Bool
is_account accounts x = nat_le 1 x && nat_le x accounts

-- whether the accounts of an event are among so many; a move is between two
abbrev pub is_in_range : ℕ → Event → Bool
is_in_range accounts (Move k x y n a) = is_account accounts x && (is_account accounts y && not (x == y))
is_in_range accounts (Show x) = is_account accounts x
is_in_range accounts other = true

-- the event, if its accounts are there
abbrev pub in_range : ℕ → Option Event → Option Event
in_range accounts None = None
in_range accounts (Some event) = if is_in_range accounts event then Some event else None

-- what a line after the first says where there are so many accounts
abbrev pub event_at : ℕ → List ℕ → Option Event
event_at accounts line = in_range accounts (whole event_words line)

-- A bank has a connection at least, and no opening balance passes the greatest one.
abbrev pub IsBank : BankLine → Type 0
IsBank bank = (1 ≤ bank.max) × (bank.opening < 2 ^ 63)

-- `bank N max B`
unfoldable pub bank_words : List (List ℕ) → Option BankLine
bank_words = row (number_in 2 1001) (λ n. row (number_in 1 65) (λ m. row (number_in 0 (2 ^ 63)) (λ b. ended (record { accounts = n; max = m; opening = b }))))

-- the first line
unfoldable pub opening_words : List (List ℕ) → Option BankLine
opening_words = row any (λ name ws. if bytes_eq name (codes "bank") then bank_words ws else None)

-- what a first line says
abbrev pub opening_of : List ℕ → Option BankLine
opening_of line = whole opening_words line
