-- What each event is answered, and what it does to the book.
use Rattle.std.specs.Prelude.{ℕ, ◌+◌, ◌||◌, ◌&&◌, ◌==◌, Bool, true, false, nat_le, List, [], ◌∷◌, ◌++◌, length, map, sum_by, if◌then◌else◌, Option, Some, None}
use Rattle.std.specs.List.{list_any}
use Rattle.sqlx_lines.specs.Numbers.{nanos}
use Rattle.sqlx_pool_marks.specs.declared.mark.Mark.{Mark}
use Rattle.sqlx_pool_marks.specs.declared.mark.Mark.TheVariants.{Asked, Left, Taken, Opened, Lent, Kept, Closed, Ended, Shut}
use Rattle.sqlx_pool_marks.specs.Marks.{PendingTicket, IdleEntry, Loan, tickets_of, loans_of, idle_of}
use Rattle.sqlx_pool_marks.specs.Counts.{asked_in}
use Rattle.sqlx_lines.specs.Scripts.{Grammar}
use Rattle.sqlx_player.specs.Language.{Language, Rules, Pairs}
use Rattle.sqlx_tenants_rules.specs.declared.event.Opening.{Opening}
use Rattle.sqlx_tenants_rules.specs.declared.event.Event.{Event}
use Rattle.sqlx_tenants_rules.specs.declared.event.Event.TheVariants.{Tenant, Ask, Poll, Give, Retire, Use}
use Rattle.sqlx_tenants_rules.specs.declared.reply.Reply.{Reply}
use Rattle.sqlx_tenants_rules.specs.declared.reply.Reply.TheVariants as reply
use Rattle.sqlx_tenants_rules.specs.Grammar.{opening_of, event_at, last_moment}
use Rattle.sqlx_tenants_rules.specs.Texts.{text_of, closing_text}
use Rattle.sqlx_tenants_rules.specs.Book.{Account, Book, new_book, account, is_given, is_retired, open_in, own_rule, root_rule, ticket_due, conn_due, stepped, taking}

-- ---- the replies

-- so many tenants there may be
abbrev pub most : ℕ
most = 1000

-- `tenant`
abbrev pub tenant_reply : Book → Reply
tenant_reply book = if length book == most + 1 then reply.Full else reply.Tenant (length book)

-- `ask`
abbrev pub ask_reply : ℕ → Book → Reply
ask_reply n book = if is_retired (account n book) then reply.PoolClosed else reply.Ticket (ticket_due book)

-- a ticket leaves the line: the tenant's first idle connection is lent; with none idle, a new one is opened, or refused
abbrev pub served : Bool → ℕ → List IdleEntry → Reply
served opens next (first ∷ rest) = reply.Ready first.conn
served true next [] = reply.Ready next
served false next [] = reply.Io

-- `poll` of a ticket of the client that hasn't ended
abbrev pub poll_found : ℕ → ℕ → Bool → PendingTicket → Book → Reply
poll_found now n opens a book =
    if is_retired (account n book) then reply.PoolClosed else
    if nat_le a.deadline (nanos now) then reply.PoolTimedOut else
    if own_rule n a.ticket book || root_rule n a.ticket book then served opens (conn_due book) (idle_of (account n book).marks) else
    reply.Waiting

-- `poll`, where the client has such a ticket or not
abbrev pub poll_if : ℕ → ℕ → Bool → Option PendingTicket → Book → Reply
poll_if now n opens None book = reply.NotHeld
poll_if now n opens (Some a) book = poll_found now n opens a book

-- `poll`
abbrev pub poll_reply : ℕ → ℕ → ℕ → ℕ → Bool → Book → Reply
poll_reply now k n t opens book = poll_if now n opens (asked_in k t (tickets_of (account n book).marks)) book

-- it is this client's loan of this connection
abbrev pub is_loan_by : ℕ → ℕ → Loan → Bool
is_loan_by k c l = (c == l.conn) && (k == l.client)

-- the client owns the tenant's connection
abbrev pub owns : ℕ → ℕ → Account → Bool
owns k c a = list_any (is_loan_by k c) (loans_of a.marks)

-- `give`
abbrev pub give_reply : ℕ → ℕ → ℕ → Book → Reply
give_reply k n c book =
    if owns k c (account n book) then (if is_retired (account n book) then reply.Closed else reply.Kept) else reply.NotHeld

-- `retire`: so many idle connections are closed
abbrev pub retire_reply : Account → Reply
retire_reply a = reply.Retired (if is_retired a then 0 else length (idle_of a.marks))

-- `use`
abbrev pub use_reply : Account → Reply
use_reply a = reply.Use (open_in a) a.owned

-- the reply, where there is a tenant of this name
abbrev pub of_tenant : ℕ → Book → Reply → Reply
of_tenant n book answer = if is_given n book then answer else reply.NoTenant

-- the reply to an event, where the book is this
abbrev pub answer_at : Book → Event → Reply
answer_at book (Tenant now budget) = tenant_reply book
answer_at book (Ask now k n) = of_tenant n book (ask_reply n book)
answer_at book (Poll now k n t opens) = of_tenant n book (poll_reply now k n t opens book)
answer_at book (Give now k n c) = of_tenant n book (give_reply k n c book)
answer_at book (Retire now n) = of_tenant n book (retire_reply (account n book))
answer_at book (Use now n) = of_tenant n book (use_reply (account n book))

-- ---- what a reply tells

-- it is this connection that rests
abbrev pub is_rest_of : ℕ → IdleEntry → Bool
is_rest_of c r = c == r.conn

-- how the tenant came to the connection that is lent: it was idle, or is opened at this moment
abbrev pub had : ℕ → ℕ → Account → Mark
had now c a = if list_any (is_rest_of c) (idle_of a.marks) then Taken c else Opened c (nanos now)

-- the marks of a ticket that is served
abbrev pub ready_marks : ℕ → ℕ → ℕ → ℕ → Account → List Mark
ready_marks now k t c a = Left t ∷ had now c a ∷ Lent k c ∷ Ended t ∷ []

-- the mark of an idle connection that is closed
abbrev pub closed_rest : IdleEntry → Mark
closed_rest r = Closed r.conn

-- the marks of the first retiring
abbrev pub retire_marks : Account → List Mark
retire_marks a = if is_retired a then [] else Shut ∷ map closed_rest (idle_of a.marks)

-- the book after a poll
abbrev pub after_poll : ℕ → ℕ → ℕ → ℕ → Reply → Book → Book
after_poll now k n t reply.PoolClosed book = stepped n (Ended t ∷ []) book
after_poll now k n t reply.PoolTimedOut book = stepped n (Ended t ∷ []) book
after_poll now k n t (reply.Ready c) book = stepped n (ready_marks now k t c (account n book)) (taking n t book)
after_poll now k n t reply.Io book = stepped n (Left t ∷ Ended t ∷ []) (taking n t book)
after_poll now k n t other book = book

-- the book after a giving back
abbrev pub after_give : ℕ → ℕ → ℕ → Reply → Book → Book
after_give now n c reply.Kept book = stepped n (Kept c (nanos now) ∷ []) book
after_give now n c reply.Closed book = stepped n (Closed c ∷ []) book
after_give now n c other book = book

-- the book after a tenant came, or couldn't
abbrev pub after_tenant : ℕ → Reply → Book → Book
after_tenant budget (reply.Tenant n) book = book ++ (record { budget = budget; owned = 0; marks = [] }) ∷ []
after_tenant budget other book = book

-- the book after an ask
abbrev pub after_ask : ℕ → ℕ → ℕ → ℕ → Reply → Book → Book
after_ask timeout now k n (reply.Ticket t) book = stepped n (Asked t k (nanos now + nanos timeout) ∷ []) book
after_ask timeout now k n other book = book

-- the book after a retiring
abbrev pub after_retire : ℕ → Reply → Book → Book
after_retire n (reply.Retired count) book = stepped n (retire_marks (account n book)) book
after_retire n other book = book

-- the book after an event and its reply
abbrev pub book_by : Opening → Book → Event × Reply → Book
book_by first book (Tenant now budget, answer) = after_tenant budget answer book
book_by first book (Ask now k n, answer) = after_ask first.timeout now k n answer book
book_by first book (Poll now k n t opens, answer) = after_poll now k n t answer book
book_by first book (Give now k n c, answer) = after_give now n c answer book
book_by first book (Retire now n, answer) = after_retire n answer book
book_by first book (Use now n, answer) = book

-- the book after these events and replies, behind this one
unfoldable pub book_after : Opening → Book → Pairs Event Reply → Book
book_after first book [] = book
book_after first book (pair ∷ pairs) = book_after first (book_by first book pair) pairs

-- the book after all events and replies
abbrev pub book_of : Opening → Pairs Event Reply → Book
book_of first pairs = book_after first (new_book first.limit) pairs

-- how many connections are open, over all tenants
abbrev pub all_open : Book → ℕ
all_open book = sum_by open_in book

-- what the lines of a script of tenants say
abbrev pub tenants_grammar : Grammar Opening Event
tenants_grammar = record { first_of = opening_of; event_of = λ first done line. event_at first.limit (last_moment done) line }

-- what the events are answered, and what is written
abbrev pub tenants_rules : Rules Opening Event Reply
tenants_rules = record {
  answer = λ first pairs event. answer_at (book_of first pairs) event;
  text_of = text_of;
  closing = λ first pairs. closing_text (all_open (book_of first pairs)) first.limit;
}

-- the language of tenants' scripts and its rules
abbrev pub tenants_language : Language Opening Event Reply
tenants_language = record { grammar = tenants_grammar; rules = tenants_rules }
