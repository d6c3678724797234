-- What each account holds, read off the amounts of moves and the brackets around them.
use Rattle.std.specs.Prelude.{ℕ, zero, suc, ◌^◌, ◌==◌, ℤ, pos, neg_ℤ, ◌+ℤ◌, Bool, not, List, [], ◌∷◌, ◌++◌, filter, count_by, if◌then◌else◌, Option, Some, None}
use Rattle.std.specs.List.{list_any}
use Rattle.sqlx_savepoints.specs.Changes.{Change, opens, writes, commits, rolls_back, leaves, History}
use Rattle.sqlx_savepoints.specs.Brackets.{depth, is_surviving, value_written}
use Rattle.sqlx_player.specs.Language.{Pairs}
use Rattle.sqlx_transfer_rules.specs.declared.bank_line.BankLine.{BankLine}
use Rattle.sqlx_transfer_rules.specs.declared.event.Event.{Event}
use Rattle.sqlx_transfer_rules.specs.declared.event.Event.TheVariants.{Start, Move, Commit, Undo, Drop}
use Rattle.sqlx_transfer_rules.specs.declared.reply.Reply.{Reply}
use Rattle.sqlx_transfer_rules.specs.declared.reply.Reply.TheVariants.{Level, Moved, Dropped}

-- ---- brackets and amounts

-- What an event and its reply bring about, the newest first. A start opens a bracket of its client, which a commit commits, and an undo or a drop rolls back.
-- A move puts two amounts down: what account x loses, and what account y gains.
abbrev pub brought_about : Event → Reply → List Change
brought_about (Start k) (Level d) = opens k ∷ []
brought_about (Move k x y n met) Moved = writes k (pos y) (Some (pos n)) ∷ writes k (pos x) (Some (neg_ℤ (pos n))) ∷ []
brought_about (Commit k) (Level d) = commits k ∷ []
brought_about (Undo k) (Level d) = rolls_back k ∷ []
brought_about (Drop k) Dropped = leaves k ∷ []
brought_about event reply = []

-- what happened by these events and replies, behind what happened before
unfoldable pub history_after : History → Pairs Event Reply → History
history_after past [] = past
history_after past (pair ∷ pairs) = history_after (brought_about pair.0 pair.1 ++ past) pairs

-- what happened by these events and replies, the newest first
abbrev pub history_of : Pairs Event Reply → History
history_of pairs = history_after [] pairs

-- how many levels of a client are open
abbrev pub depth_of : ℕ → Pairs Event Reply → ℕ
depth_of k pairs = depth k (history_of pairs)

-- ---- amounts

-- an amount that was put down, 0 where none was
abbrev pub amount_of : Option ℤ → ℤ
amount_of (Some n) = n
amount_of None = pos 0

-- the sum of the amounts put down for account x that survive for the reader: each bracket around one is committed, or open and the reader's own
abbrev pub sum_before : ℕ → ℕ → List Change → History → ℤ
sum_before reader x later [] = pos 0
sum_before reader x later (change ∷ past) =
    (if is_surviving reader (pos x) later change past then amount_of (value_written change) else pos 0) +ℤ sum_before reader x (change ∷ later) past

-- the same of all that happened
abbrev pub sum_of : ℕ → ℕ → History → ℤ
sum_of reader x history = sum_before reader x [] history

-- what the reader sees in account x: the opening balance, and the amounts that survive for it
abbrev pub seen : BankLine → ℕ → Pairs Event Reply → ℕ → ℤ
seen bank reader pairs x = pos bank.opening +ℤ sum_of reader x (history_of pairs)

-- no client has this number, so this reader sees what is committed
abbrev pub nobody : ℕ
nobody = 2 ^ 32

-- the committed balance of account x
abbrev pub balance : BankLine → Pairs Event Reply → ℕ → ℤ
balance bank pairs x = seen bank nobody pairs x

-- the committed balances of accounts 1 to n, added up
unfoldable pub total_of : BankLine → Pairs Event Reply → ℕ → ℤ
total_of bank pairs zero = pos 0
total_of bank pairs (suc n) = total_of bank pairs n +ℤ balance bank pairs (suc n)

-- ---- who has a connection

-- whether a client is among these
abbrev pub is_among : ℕ → List ℕ → Bool
is_among k clients = list_any (λ other. other == k) clients

-- these and the client, which stands there once
abbrev pub with_client : ℕ → List ℕ → List ℕ
with_client k clients = if is_among k clients then clients else clients ++ k ∷ []

-- these without the client
abbrev pub without_client : ℕ → List ℕ → List ℕ
without_client k clients = filter (λ other. not (other == k)) clients

-- the clients that have a connection after one more event: a level takes one, and the end of the last level or a drop gives it back
abbrev pub connected_by : Event → Reply → List ℕ → List ℕ
connected_by (Start k) (Level d) clients = with_client k clients
connected_by (Commit k) (Level zero) clients = without_client k clients
connected_by (Undo k) (Level zero) clients = without_client k clients
connected_by (Drop k) Dropped clients = without_client k clients
connected_by event reply clients = clients

-- the same after these events and replies
unfoldable pub connected_after : List ℕ → Pairs Event Reply → List ℕ
connected_after clients [] = clients
connected_after clients (pair ∷ pairs) = connected_after (connected_by pair.0 pair.1 clients) pairs

-- the clients that have a connection
abbrev pub connected : Pairs Event Reply → List ℕ
connected pairs = connected_after [] pairs

-- whether a client has a connection
abbrev pub has_connection : ℕ → Pairs Event Reply → Bool
has_connection k pairs = is_among k (connected pairs)

-- how many other clients have one
abbrev pub others_connected : ℕ → Pairs Event Reply → ℕ
others_connected k pairs = count_by (λ other. not (other == k)) (connected pairs)
