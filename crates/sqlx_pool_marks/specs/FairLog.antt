-- Which marks may follow which: a log of the pool is fair where each of its marks is safe and in order.
use Rattle.std.specs.Prelude.{◌≡◌, ℕ, ◌^◌, ◌<◌, ◌≤◌, Bool, true, false, not, ◌&&◌, ◌==◌, ◌⊎◌, List, [], ◌∷◌, ◌++◌, Option, Some, None, IsTrue}
use Rattle.std.specs.List.{list_any}
use Rattle.sqlx_pool_marks.specs.declared.mark.Mark.{Mark}
use Rattle.sqlx_pool_marks.specs.declared.mark.Mark.TheVariants.{Asked, Left, Taken, Reaped, Opened, Lent, Kept, Closed, Detached, Leaked, Ended, Shut}
use Rattle.sqlx_pool_marks.specs.Standing.{last_mark}
use Rattle.sqlx_pool_marks.specs.Marks.{PendingTicket, IdleEntry, is_loan_of, is_live_conn}
use Rattle.sqlx_pool_marks.specs.View.{View, view_of, waiting, before, free, size}

-- ---- what a mark finds

-- the connection has an owner
abbrev pub is_owned : ℕ → View → Bool
is_owned c v = list_any (is_loan_of c) v.loans

-- it is this connection that rests
abbrev pub rests : ℕ → IdleEntry → Bool
rests c r = c == r.conn

-- the connection is idle
abbrev pub is_idle : ℕ → View → Bool
is_idle c v = list_any (rests c) v.idle

-- opened, and not gone since
abbrev pub is_live : ℕ → View → Bool
is_live c v = list_any (is_live_conn c) v.live

-- the ticket has this number
abbrev pub is_ticket : ℕ → PendingTicket → Bool
is_ticket t a = t == a.ticket

-- the ticket was asked and has not ended
abbrev pub is_unended : ℕ → View → Bool
is_unended t v = list_any (is_ticket t) v.tickets

-- the ticket has this number and stands in the line
abbrev pub is_in_line : ℕ → PendingTicket → Bool
is_in_line t a = (t == a.ticket) && not a.left

-- the ticket of this number stands in the line
abbrev pub waits : ℕ → View → Bool
waits t v = list_any (is_in_line t) v.tickets

-- the client's ticket of this number, which has left the line
abbrev pub is_left_ticket_of : ℕ → ℕ → PendingTicket → Bool
is_left_ticket_of k t a = (t == a.ticket) && (k == a.client) && a.left

-- c is the first of the idle
abbrev pub is_first : ℕ → List IdleEntry → Bool
is_first c [] = false
is_first c (r ∷ rest) = c == r.conn

-- the mark opens this connection
abbrev pub opens_it : ℕ → Option Mark → Bool
opens_it c (Some (Opened d m)) = c == d
opens_it c other = false

-- ---- safe

-- What a mark finds, the mark before it being given too.
abbrev pub FindsSafe : View → Option Mark → Mark → Type 0
FindsSafe v last (Asked t k d) = IsTrue (not v.shut) × (v.next_ticket ≤ t)
FindsSafe v last (Left t) = IsTrue (not v.shut)
FindsSafe v last (Taken c) = IsTrue (not v.shut) × IsTrue (is_first c v.idle)
FindsSafe v last (Reaped c) = IsTrue (not v.shut) × IsTrue (is_idle c v)
FindsSafe v last (Opened c m) = IsTrue (not v.shut) × (v.next_conn ≤ c)
FindsSafe v last (Lent k c) = IsTrue (not v.shut) × IsTrue (is_live c v && not (is_idle c v) && not (is_owned c v))
FindsSafe v last (Kept c m) = IsTrue (not v.shut) × (IsTrue (opens_it c last) ⊎ IsTrue (is_owned c v))
FindsSafe v last (Closed c) = IsTrue (is_live c v)
FindsSafe v last (Detached c) = IsTrue (is_owned c v)
FindsSafe v last (Leaked c) = IsTrue (is_owned c v)
FindsSafe v last (Ended t) = IsTrue (is_unended t v)
FindsSafe v last Shut = IsTrue (not v.shut)

-- in mid-step: a Left that a Taken or an Ended follows at once, a Lent that an Ended follows at once
abbrev pub is_amid : Mark → Option Mark → Bool
is_amid (Left t) (Some (Taken c)) = true
is_amid (Left t) (Some (Ended u)) = true
is_amid (Lent k c) (Some (Ended t)) = true
is_amid m next = false

-- P, unless the test holds
abbrev pub Unless : Bool → Type 0 → Type 0
Unless true P = Unit {0}
Unless false P = P

-- After the mark the pool has no more connections than its maximum, but in mid-step.
abbrev pub KeepsSize : ℕ → View → Mark → Option Mark → Type 0
KeepsSize max after m next = Unless (is_amid m next) (size after ≤ max)

-- ---- in order

-- The mark that follows a Left takes the first idle connection, where there is one; where numbers are used up the ticket may end instead.
abbrev pub GoesOn : View → ℕ → List IdleEntry → Option Mark → Type 0
GoesOn v t [] next = Unit {0}
GoesOn v t (r ∷ rest) (Some (Taken c)) = c ≡ r.conn
GoesOn v t (r ∷ rest) (Some (Ended u)) = (u ≡ t) × (2 ^ 63 < v.next_conn)
GoesOn v t (r ∷ rest) next = ⊥

-- the Lent serves a ticket of its client that has left
abbrev pub serves : View → ℕ → Option Mark → Bool
serves v k (Some (Ended t)) = list_any (is_left_ticket_of k t) v.tickets
serves v k next = false

-- A ticket leaves the line where fewer waiting tickets precede it than permits are free; a connection is lent past the line where fewer tickets wait than permits are free.
abbrev pub IsInOrder : ℕ → View → Mark → Option Mark → Type 0
IsInOrder max v (Left t) next = IsTrue (waits t v) × (before t v < free max v) × GoesOn v t v.idle next
IsInOrder max v (Lent k c) next = Unless (serves v k next) (waiting v < free max v)
IsInOrder max v m next = Unit {0}

-- ---- logs

-- A mark is safe: what it finds, and what it leaves. The mark before it and the one behind it are given too.
pub record IsSafeMark (max : ℕ) (v after : View) (last : Option Mark) (m : Mark) (next : Option Mark) : Type 0 where
  pub finds : FindsSafe v last m
  pub keeps : KeepsSize max after m next

-- the first of these marks
abbrev pub first_of_marks : List Mark → Option Mark
first_of_marks [] = None
first_of_marks (m ∷ later) = Some m

-- Each of these marks is safe behind those before it, in a pool of this maximum.
abbrev pub IsSafe : ℕ → List Mark → List Mark → Type 0
IsSafe max before [] = Unit {0}
IsSafe max before (m ∷ later) =
    IsSafeMark max (view_of before) (view_of (before ++ m ∷ [])) (last_mark None before) m (first_of_marks later)
    × IsSafe max (before ++ m ∷ []) later

-- Each of these marks is in order behind those before it.
abbrev pub IsOrdered : ℕ → List Mark → List Mark → Type 0
IsOrdered max before [] = Unit {0}
IsOrdered max before (m ∷ later) = IsInOrder max (view_of before) m (first_of_marks later) × IsOrdered max (before ++ m ∷ []) later

-- A fair log: a start, and marks that are safe and in order behind it.
pub record IsFair (max : ℕ) (start marks : List Mark) : Type 0 where
  pub safe : IsSafe max start marks
  pub order : IsOrdered max start marks
