-- When a bank stands for events and replies.
use Rattle.std.specs.Prelude.{◌≡◌, ℕ, ℤ, ◌+◌, ◌<◌, ◌≤◌, ◌^◌, ◌==◌, false, List, [], ◌∷◌, ◌++◌, map, length, sum_by, count_by, All}
use Rattle.sqlx_savepoints.specs.Changes.{History}
use Rattle.sqlx_savepoints.specs.Standing.{standing}
use Rattle.sqlx_savepoints.specs.Stores.{AreAccepted}
use Rattle.sqlx_savepoints.specs.Links.{linked_after, new_link}
use Rattle.sqlx_pool_lists.specs.Core.{Core}
use Rattle.sqlx_pool_lists.specs.declared.steps.Idle.{Idle}
use Rattle.sqlx_pool_lists.specs.declared.ticket.OwnedConn.{OwnedConn}
use Rattle.mem_store.specs.Store.{Store, Link}
use Rattle.sqlx_play.specs.stage.LinksStand.{side_of}
use Rattle.sqlx_player.specs.Language.{Pairs}
use Rattle.sqlx_transfer_rules.specs.declared.bank_line.BankLine.{BankLine}
use Rattle.sqlx_transfer_rules.specs.declared.event.Event.{Event}
use Rattle.sqlx_transfer_rules.specs.declared.event.Event.TheVariants.{Start, Move}
use Rattle.sqlx_transfer_rules.specs.declared.reply.Reply.{Reply}
use Rattle.sqlx_transfer_rules.specs.declared.reply.Reply.TheVariants.{Level, Moved}
use Rattle.sqlx_transfer_rules.specs.Transfers.{history_of, connected, is_among, balance, total_of}
use Rattle.sqlx_transfer_rules.specs.Rules.{answer}
use Rattle.sqlx_transfer_rules.specs.Laws.{IsOfBank}
use Rattle.sqlx_transfer_rules.specs.Values.{valued}
use Rattle.sqlx_transfer.specs.declared.bank.Bank.{Bank}
use Rattle.sqlx_transfer.specs.declared.holder.Holder.{Holder}
use Rattle.sqlx_transfer.specs.Pool.{IsPool, loan_to}

-- how many levels an event and its reply began for sure: one for a start, and one for a move
abbrev pub begins : Event → Reply → ℕ
begins (Start k) (Level d) = 1
begins (Move k x y n met) Moved = 1
begins event reply = 0

-- the same of these events and replies
abbrev pub levels_begun : Pairs Event Reply → ℕ
levels_begun pairs = sum_by (λ pair. begins pair.0 pair.1) pairs

-- the client of a connection
abbrev pub client_of : Holder → ℕ
client_of h = h.client

-- the loan of a connection
abbrev pub held_of : Holder → OwnedConn
held_of h = loan_to h.client h.lent

-- a level is open, and no more than a hundred are
abbrev pub IsInLevel : Holder → Type 0
IsInLevel h = (1 ≤ h.lent.raw.depth) × (h.lent.raw.depth ≤ 100)

-- clients have numbers below 2^32
abbrev pub IsClient : Holder → Type 0
IsClient h = h.client < 2 ^ 32

-- Each client's link, and the store, are as what happened left them, and each client has a level open; who has no connection left nothing open.
pub record LinksStand (past : History) (store : Store) (holders : List Holder) : Type 0 where
  pub accepted : AreAccepted past
  pub rows : store.rows ≡ (linked_after past).rows
  pub links : All (λ h. side_of h.lent.raw ≡ (linked_after past).link h.client) holders
  pub levels : All IsInLevel holders
  pub numbers : All IsClient holders
  pub away : (k : ℕ) → is_among k (map client_of holders) ≡ false → (linked_after past).link k ≡ new_link
  pub once : (k : ℕ) → count_by (λ h. h.client == k) holders ≤ 1
  pub open_links : store.open_links ≡ length holders

-- All connections are opened; the clients' are lent, and each other one rests without a level.
pub record PoolStands (max : ℕ) (core : Core Link) (holders : List Holder) : Type 0 where
  pub idle : List (Idle Link)
  pub pool : IsPool max core (map held_of holders) idle
  pub all : length holders + length idle ≡ max
  pub rests : All (λ i. side_of i.lent.raw ≡ new_link) idle

-- The bank is as it is after these events and replies: what happened in its store stands for values where the script's amounts stand, and the clients that have a connection are those of the replies.
pub record Stands (core : Core Link) (store : Store) (holders : List Holder) (line first : BankLine) (pairs : Pairs Event Reply) : Type 0 where
  pub set_up : line ≡ first
  pub past : History
  pub links : LinksStand past store holders
  pub pool : PoolStands first.max core holders
  pub accepted : AreAccepted (history_of pairs)
  pub stands : standing past ≡ valued first (standing (history_of pairs))
  pub clients : map client_of holders ≡ connected pairs
  pub begun : levels_begun pairs ≤ store.runs.begun

-- ---- of a bank

-- What a bank is to its definitions: its pool, its store, who has which connection, and its first line.
pub record BankState : Type 0 where
  pub core : Core Link
  pub store : Store
  pub holders : List Holder
  pub line : BankLine

-- what a bank is to its definitions
abbrev pub state_of : {R : Type 0} → Bank R → BankState
state_of bank = record { core = bank.core.pool; store = bank.store; holders = bank.holders.items; line = bank.line }

-- the bank stands for these events and replies
abbrev pub StandsFor : BankState → BankLine → Pairs Event Reply → Type 0
StandsFor bank = Stands bank.core bank.store bank.holders bank.line

-- What an event does: its reply is due, and a bank that stood for what came before it stands for it too.
abbrev pub Replies : Event → Reply → BankState → BankState → Type 0
Replies event reply old new = (first : BankLine) (pairs : Pairs Event Reply) → StandsFor old first pairs → length pairs < 2 ^ 20 → IsOfBank first event
    → (reply ≡ answer first pairs event) × StandsFor new first (pairs ++ (event, reply) ∷ [])

-- this is what an account of the bank holds, as far as it is committed
abbrev pub Holds : BankState → ℕ → ℤ → Type 0
Holds bank account value = (first : BankLine) (pairs : Pairs Event Reply) → StandsFor bank first pairs → 1 ≤ account → account ≤ first.accounts → value ≡ balance first pairs account

-- this is what the accounts 1 to n of the bank hold together
abbrev pub HoldTogether : BankState → ℕ → ℤ → Type 0
HoldTogether bank n total = (first : BankLine) (pairs : Pairs Event Reply) → StandsFor bank first pairs → n ≤ first.accounts → total ≡ total_of first pairs n

-- the client of a place, whose connection has no level any more, gave it back
abbrev pub GivesBack : Core Link → List Holder → ℕ → Core Link → List Holder → Type 0
GivesBack old_core old place core holders = (max : ℕ) (before : List Holder) (own : Holder) (after : List Holder) → old ≡ before ++ own ∷ after → length before ≡ place
    → PoolStands max old_core (before ++ own ∷ after) → side_of own.lent.raw ≡ new_link → PoolStands max core (before ++ after) × (holders ≡ before ++ after)

-- A client's place among those that have a connection.
pub record HasPlace (holders : List Holder) (k place : ℕ) : Type 0 where
  pub before : List Holder
  pub own : Holder
  pub after : List Holder
  pub whole : holders ≡ before ++ own ∷ after
  pub place' : length before ≡ place
  pub is : own.client ≡ k
