-- The pools of a family of tenants as the replies tell of them: the log of each, and the permits that each owns.
use Rattle.std.specs.Prelude.{ℕ, ◌+◌, ◌-◌, ◌&&◌, Bool, not, nat_lt, List, [], ◌∷◌, ◌++◌, if◌then◌else◌, length, count_by, sum_by, max, slice_index_or, slice_set}
use Rattle.std.specs.List.{list_any}
use Rattle.sqlx_pool_marks.specs.declared.mark.Mark.{Mark}
use Rattle.sqlx_pool_marks.specs.Marks.{PendingTicket, tickets_of, loans_of, idle_of, leaked_of, live_of, is_shut, next_ticket, next_conn}
use Rattle.sqlx_pool_marks.specs.Counts.{before_in, left_in, free_of}

-- A pool: how many permits it may own and how many it owns, and its log.
pub record Account : Type 0 where
  pub budget : ℕ
  pub owned : ℕ
  pub marks : List Mark

-- The pools by their names: 0 is the root's, which lends nothing itself; 1, 2 and so on are the tenants'.
abbrev pub Book : Type 0
Book = List Account

-- before any tenant came, the root owns all permits
abbrev pub new_book : ℕ → Book
new_book limit = (record { budget = limit; owned = limit; marks = [] }) ∷ []

-- what stands under a name that nobody has
abbrev pub nobody : Account
nobody = record { budget = 0; owned = 0; marks = [] }

-- the pool of this name
abbrev pub account : ℕ → Book → Account
account n book = slice_index_or book n nobody

-- a tenant has this name
abbrev pub is_given : ℕ → Book → Bool
is_given n book = nat_lt 0 n && nat_lt n (length book)

-- ---- a pool

-- the tenant is retired
abbrev pub is_retired : Account → Bool
is_retired a = list_any is_shut a.marks

-- the connections that were opened and not closed
abbrev pub live : Account → ℕ
live a = length (live_of a.marks)

-- the connections that are idle or owned
abbrev pub open_in : Account → ℕ
open_in a = length (idle_of a.marks) + length (loans_of a.marks)

-- the permits that no connection with an owner, leaked connection or ticket that has left has
abbrev pub free : Account → ℕ
free a = free_of a.owned (length (loans_of a.marks)) (leaked_of a.marks) (left_in (tickets_of a.marks)) 0

-- a ticket waits, and has a smaller number
abbrev pub waits_below : ℕ → PendingTicket → Bool
waits_below t a = not a.left && nat_lt a.ticket t

-- how many of a pool's waiting tickets precede this one in the root's line: those of a pool that owns fewer permits than its budget stand there, in the order of their numbers
abbrev pub lined_below : ℕ → Account → ℕ
lined_below t a = if nat_lt a.owned a.budget then count_by (waits_below t) (tickets_of a.marks) else 0

-- ---- all of them

-- how many tickets precede this one in the root's line
abbrev pub ahead : ℕ → Book → ℕ
ahead t book = sum_by (lined_below t) book

-- the own rule: fewer waiting tickets of the tenant precede this one than the tenant has free permits
abbrev pub own_rule : ℕ → ℕ → Book → Bool
own_rule n t book = nat_lt (before_in t (tickets_of (account n book).marks)) (free (account n book))

-- the root rule: the tenant owns fewer permits than its budget, and fewer tickets precede this one in the root's line than the root has free permits
abbrev pub root_rule : ℕ → ℕ → Book → Bool
root_rule n t book = nat_lt (account n book).owned (account n book).budget && nat_lt (ahead t book) (free (account 0 book))

-- the greatest of these numbers, and 1 where there is none
unfoldable pub greatest : (Account → ℕ) → Book → ℕ
greatest f [] = 1
greatest f (a ∷ book) = max (f a) (greatest f book)

-- the number after a pool's last ticket
abbrev pub ticket_behind : Account → ℕ
ticket_behind a = next_ticket a.marks

-- the number after a pool's last connection
abbrev pub conn_behind : Account → ℕ
conn_behind a = next_conn a.marks

-- the number of the next ticket: one more than the greatest in any log
abbrev pub ticket_due : Book → ℕ
ticket_due book = greatest ticket_behind book

-- the number of the next connection: one more than the greatest in any log
abbrev pub conn_due : Book → ℕ
conn_due book = greatest conn_behind book

-- ---- changes

-- a pool owns so many permits
abbrev pub owning : ℕ → ℕ → Book → Book
owning n count book = slice_set book n (record (account n book) { owned = count })

-- so many permits move from one pool to another
abbrev pub moved : ℕ → ℕ → ℕ → Book → Book
moved from to count book = let less = owning from ((account from book).owned - count) book in owning to ((account to less).owned + count) less

-- a pool's log has these marks more
abbrev pub logged : ℕ → List Mark → Book → Book
logged n made book = slice_set book n (record (account n book) { marks = (account n book).marks ++ made })

-- a retired tenant keeps no free permit: they go to the root
abbrev pub settled : ℕ → Book → Book
settled n book = if is_retired (account n book) then moved n 0 (free (account n book)) book else book

-- a pool's log has these marks more, and what a retired tenant frees goes to the root at once
abbrev pub stepped : ℕ → List Mark → Book → Book
stepped n made book = settled n (logged n made book)

-- a ticket that leaves the line takes a permit from the root where its own line doesn't entitle it
abbrev pub taking : ℕ → ℕ → Book → Book
taking n t book = if own_rule n t book then book else moved 0 n 1 book
