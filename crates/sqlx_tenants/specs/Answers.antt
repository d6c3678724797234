-- What the calls at the desk do, whatever book the family kept.
use Rattle.std.specs.Prelude.{◌≡◌, ℕ, ◌^◌, ◌≤◌, ◌<◌, Bool, true, false, length}
use Rattle.sqlx_pool_lists.specs.declared.steps.AfterTest.{AfterTest}
use Rattle.sqlx_pool_lists.specs.declared.steps.AfterTest.TheVariants as tested
use Rattle.sqlx_pool_lists.specs.declared.steps.AfterConnect.{AfterConnect}
use Rattle.sqlx_pool_lists.specs.declared.steps.AfterConnect.TheVariants as connected
use Rattle.sqlx_pool_lists.specs.declared.steps.Tried.{Tried}
use Rattle.sqlx_pool_lists.specs.declared.steps.Tried.TheVariants as tried
use Rattle.sqlx_lines.specs.Numbers.{nanos}
use Rattle.sqlx_family.specs.Pools.{Pools}
use Rattle.sqlx_tenants_rules.specs.declared.event.Opening.{Opening}
use Rattle.sqlx_tenants_rules.specs.declared.reply.Reply.{Reply}
use Rattle.sqlx_tenants_rules.specs.declared.reply.Reply.TheVariants as reply
use Rattle.sqlx_tenants_rules.specs.Book.{Book, ticket_due, conn_due}
use Rattle.sqlx_tenants_rules.specs.declared.event.Event.{Event}
use Rattle.sqlx_tenants_rules.specs.Grammar.{moment}
use Rattle.sqlx_tenants_rules.specs.Rules.{of_tenant, answer_at, book_by}
use Rattle.sqlx_tenants.specs.Keeps.{Keeps}

-- The numbers aren't used up.
abbrev pub HasNumbers : Book → Type 0
HasNumbers book = (ticket_due book ≤ 2 ^ 63) × (conn_due book ≤ 2 ^ 63)

-- A call of tenant n at this moment, in milliseconds: whatever book the family kept before, the reply is the one due, and the family keeps the book that follows it.
abbrev pub Replies : ℕ → ℕ → (Book → Reply) → (Opening → Reply → Book → Book) → Pools (Unit {0}) → Pools (Unit {0}) → Reply → Type 0
Replies now n due after old new reply = (first : Opening) (book : Book) (m : ℕ) → Keeps first old book m → m ≤ nanos now → n < length book → HasNumbers book
    → (reply ≡ due book) × Keeps first new (after first (due book) book) (nanos now)

-- ---- what a poll's second call comes to

-- the reply for what a test comes to
abbrev pub tested_reply : AfterTest (Unit {0}) → Reply
tested_reply (tested.Ready lent) = reply.Ready lent.id
tested_reply (tested.Closed raw) = reply.PoolClosed
tested_reply other = reply.NotHeld

-- the reply for what a connect comes to
abbrev pub connected_reply : AfterConnect (Unit {0}) → Reply
connected_reply (connected.Ready lent) = reply.Ready lent.id
connected_reply connected.Ended = reply.Io
connected_reply (connected.Closed raw) = reply.PoolClosed
connected_reply other = reply.NotHeld

-- a connection that is opened, or refused
abbrev pub opening : Bool → Tried (Unit {0})
opening true = tried.Opened tt
opening false = tried.Fatal

-- The same of a tenant who may not be there.
abbrev pub RepliesAt : ℕ → ℕ → (Book → Reply) → (Opening → Reply → Book → Book) → Pools (Unit {0}) → Pools (Unit {0}) → Reply → Type 0
RepliesAt now n due after old new word = (first : Opening) (book : Book) (m : ℕ) → Keeps first old book m → m ≤ nanos now → HasNumbers book
    → (word ≡ of_tenant n book (due book)) × Keeps first new (after first (of_tenant n book (due book)) book) (nanos now)

-- An event is answered: whatever book the family kept, the reply is the one due, and the family keeps the book after the event and its reply.
abbrev pub Answered : ℕ → Event → Pools (Unit {0}) → Pools (Unit {0}) → Reply → Type 0
Answered timeout event old new word = (first : Opening) (book : Book) (m : ℕ) → Keeps first old book m → m ≤ nanos (moment event) → HasNumbers book → timeout ≡ nanos first.timeout
    → (word ≡ answer_at book event) × Keeps first new (book_by first book (event, answer_at book event)) (nanos (moment event))
