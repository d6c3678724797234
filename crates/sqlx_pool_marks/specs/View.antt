-- All that later marks look at of the marks before them, as plain data.
use Rattle.std.specs.Prelude.{ℕ, ◌+◌, Bool, not, ◌||◌, ◌==◌, List, ◌++◌, Option, option_to_list, filter, map, length, if◌then◌else◌}
use Rattle.std.specs.List.{list_any}
use Rattle.sqlx_pool_marks.specs.declared.mark.Mark.{Mark}
use Rattle.sqlx_pool_marks.specs.declared.mark.Mark.TheVariants.{Left}
use Rattle.sqlx_pool_marks.specs.Standing.{next_after}
use Rattle.sqlx_pool_marks.specs.Marks.{PendingTicket, Loan, IdleEntry, LiveConn, tickets_of, loans_of, idle_of, live_of, leaked_of, is_shut, next_ticket, next_conn, lends, ends_loan, asks, is_ended, keeps, ends_rest, opens, ends_life, is_leak, asked_number, opened_number}
use Rattle.sqlx_pool_marks.specs.Counts.{waiting_in, before_in, left_in, free_of}

-- What a list of marks comes to.
pub record View : Type 0 where
  pub tickets : List PendingTicket
  pub loans : List Loan
  pub idle : List IdleEntry
  pub live : List LiveConn
  pub leaked : ℕ
  pub shut : Bool
  pub next_ticket : ℕ
  pub next_conn : ℕ

-- the view of a list of marks
abbrev pub view_of : List Mark → View
view_of marks = record {
  tickets = tickets_of marks;
  loans = loans_of marks;
  idle = idle_of marks;
  live = live_of marks;
  leaked = leaked_of marks;
  shut = list_any is_shut marks;
  next_ticket = next_ticket marks;
  next_conn = next_conn marks;
}

-- how many tickets wait
abbrev pub waiting : View → ℕ
waiting v = waiting_in v.tickets

-- how many waiting tickets precede this one
abbrev pub before : ℕ → View → ℕ
before t v = before_in t v.tickets

-- the free permits of a pool of this maximum: those of no owned connection, leaked connection or ticket that has left
abbrev pub free : ℕ → View → ℕ
free max v = free_of max (length v.loans) v.leaked (left_in v.tickets) 0

-- the connections that there are or may be: idle, owned, leaked, and one for each ticket that has left
abbrev pub size : View → ℕ
size v = length v.idle + length v.loans + v.leaked + left_in v.tickets

-- ---- one more mark

-- what it ends is gone, and what it begins is the last
abbrev pub stands_after : {X : Type 0} → (Mark → Option X) → (X → Mark → Bool) → List X → Mark → List X
stands_after begins ends xs n = filter (λ x. not (ends x n)) xs ++ option_to_list (begins n)

-- a ticket that is named by a Left has left the line
abbrev pub leaving : Mark → PendingTicket → PendingTicket
leaving (Left t) a = record a { left = a.left || (a.ticket == t) }
leaving n a = a

-- the tickets behind one more mark
abbrev pub tickets_after : List PendingTicket → Mark → List PendingTicket
tickets_after tickets n = map (leaving n) (filter (λ a. not (is_ended a.ticket n)) tickets) ++ option_to_list (asks n)

-- how many are leaked behind one more mark
abbrev pub leaked_after : ℕ → Mark → ℕ
leaked_after leaked n = leaked + (if is_leak n then 1 else 0)

-- the view behind one more mark
abbrev pub view_after : View → Mark → View
view_after v n = record {
  tickets = tickets_after v.tickets n;
  loans = stands_after lends ends_loan v.loans n;
  idle = stands_after keeps ends_rest v.idle n;
  live = stands_after opens ends_life v.live n;
  leaked = leaked_after v.leaked n;
  shut = v.shut || is_shut n;
  next_ticket = next_after (asked_number n) v.next_ticket;
  next_conn = next_after (opened_number n) v.next_conn;
}
