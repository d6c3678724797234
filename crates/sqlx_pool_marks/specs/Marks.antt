-- What a list of marks, the oldest first, says of a pool: its tickets, loans, idle connections and numbers.
-- Each definition filters and counts that one list.
use Rattle.std.specs.Prelude.{ℕ, Bool, true, false, not, ◌==◌, List, [], ◌∷◌, ◌++◌, Option, Some, None, if◌then◌else◌, find, count_by, option_map}
use Rattle.std.specs.List.{list_any}
use Rattle.sqlx_pool_marks.specs.declared.mark.Mark.{Mark}
use Rattle.sqlx_pool_marks.specs.declared.mark.Mark.TheVariants.{Asked, Left, Taken, Reaped, Opened, Lent, Kept, Closed, Detached, Leaked, Ended, Shut}
use Rattle.sqlx_pool_marks.specs.Standing.{standing, next_number}

-- ---- owners

-- A client that has a connection.
pub record Loan : Type 0 where
  pub client : ℕ
  pub conn : ℕ

-- the loan that the mark begins
abbrev pub lends : Mark → Option Loan
lends (Lent k c) = Some (record { client = k; conn = c })
lends m = None

-- the loan is over, or its connection is lent anew
abbrev pub ends_loan : Loan → Mark → Bool
ends_loan l (Lent k c) = l.conn == c
ends_loan l (Kept c m) = l.conn == c
ends_loan l (Closed c) = l.conn == c
ends_loan l (Detached c) = l.conn == c
ends_loan l (Leaked c) = l.conn == c
ends_loan l m = false

-- each connection with an owner, and its owner: the client of its last Lent, where no Kept, Closed, Detached or Leaked of it comes after
abbrev pub loans_of : List Mark → List Loan
loans_of = standing lends ends_loan

-- it is a loan of this connection
abbrev pub is_loan_of : ℕ → Loan → Bool
is_loan_of c l = c == l.conn

-- the owner of a connection
abbrev pub owner_of : ℕ → List Mark → Option ℕ
owner_of c marks = option_map (λ (l : Loan). l.client) (find (is_loan_of c) (loans_of marks))

-- ---- tickets

-- A ticket that hasn't ended.
pub record PendingTicket : Type 0 where
  pub ticket : ℕ
  pub client : ℕ
  pub deadline : ℕ
  pub left : Bool

-- the ticket that the mark asks
abbrev pub asks : Mark → Option PendingTicket
asks (Asked t k d) = Some (record { ticket = t; client = k; deadline = d; left = false })
asks m = None

-- the mark ends this ticket
abbrev pub is_ended : ℕ → Mark → Bool
is_ended t (Ended u) = t == u
is_ended t m = false

-- the mark takes this ticket out of the line
abbrev pub is_left : ℕ → Mark → Bool
is_left t (Left u) = t == u
is_left t m = false

-- a ticket that was asked, with whether it has left the line, unless it has ended
abbrev pub unended : Option PendingTicket → List Mark → List PendingTicket
unended None later = []
unended (Some a) later = if list_any (is_ended a.ticket) later then [] else (record a { left = list_any (is_left a.ticket) later }) ∷ []

-- the tickets that were asked and haven't ended, in the order of asking
abbrev pub tickets_of : List Mark → List PendingTicket
tickets_of [] = []
tickets_of (m ∷ later) = unended (asks m) later ++ tickets_of later

-- ---- idle connections

-- A connection at rest, and since when.
pub record IdleEntry : Type 0 where
  pub conn : ℕ
  pub since : ℕ

-- the rest that the mark begins
abbrev pub keeps : Mark → Option IdleEntry
keeps (Kept c m) = Some (record { conn = c; since = m })
keeps m = None

-- the rest is over, or begins anew
abbrev pub ends_rest : IdleEntry → Mark → Bool
ends_rest r (Kept c m) = r.conn == c
ends_rest r (Taken c) = r.conn == c
ends_rest r (Reaped c) = r.conn == c
ends_rest r (Closed c) = r.conn == c
ends_rest r m = false

-- the connections whose last Kept has no Taken, Reaped or Closed of them after it, in the order of those Kept marks
abbrev pub idle_of : List Mark → List IdleEntry
idle_of = standing keeps ends_rest

-- ---- opened connections

-- A connection, and when it was opened.
pub record LiveConn : Type 0 where
  pub conn : ℕ
  pub moment : ℕ

-- the connection that the mark opens
abbrev pub opens : Mark → Option LiveConn
opens (Opened c m) = Some (record { conn = c; moment = m })
opens m = None

-- the connection is gone from the pool
abbrev pub ends_conn : ℕ → Mark → Bool
ends_conn c (Reaped d) = c == d
ends_conn c (Closed d) = c == d
ends_conn c (Detached d) = c == d
ends_conn c (Leaked d) = c == d
ends_conn c m = false

-- the mark ends the life of the connection
abbrev pub ends_life : LiveConn → Mark → Bool
ends_life b m = ends_conn b.conn m

-- the connections that were opened and have no Reaped, Closed, Detached or Leaked after that
abbrev pub live_of : List Mark → List LiveConn
live_of = standing opens ends_life

-- it is this connection
abbrev pub is_live_conn : ℕ → LiveConn → Bool
is_live_conn c b = c == b.conn

-- the moment at which a connection that isn't gone was opened
abbrev pub opened_at : ℕ → List Mark → Option ℕ
opened_at c marks = option_map (λ (b : LiveConn). b.moment) (find (is_live_conn c) (live_of marks))

-- ---- the rest

-- the mark leaks a connection
abbrev pub is_leak : Mark → Bool
is_leak (Leaked c) = true
is_leak m = false

-- how many connections were leaked
abbrev pub leaked_of : List Mark → ℕ
leaked_of marks = count_by is_leak marks

-- the mark closes the pool
abbrev pub is_shut : Mark → Bool
is_shut Shut = true
is_shut m = false

-- no Shut came
abbrev pub is_open : List Mark → Bool
is_open marks = not (list_any is_shut marks)

-- the number of the ticket that the mark asks
abbrev pub asked_number : Mark → Option ℕ
asked_number (Asked t k d) = Some t
asked_number m = None

-- the number of the connection that the mark opens
abbrev pub opened_number : Mark → Option ℕ
opened_number (Opened c m) = Some c
opened_number m = None

-- one more than the number of the last ticket, and 1 where there is none
abbrev pub next_ticket : List Mark → ℕ
next_ticket = next_number asked_number 1

-- one more than the number of the last connection, and 1 where there is none
abbrev pub next_conn : List Mark → ℕ
next_conn = next_number opened_number 1
