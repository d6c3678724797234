-- How many tickets wait, how many precede one, and how many permits are free.
use Rattle.std.specs.Prelude.{ℕ, ◌+◌, ◌-◌, Bool, not, ◌&&◌, ◌==◌, List, Option, find, count_by, take_while}
use Rattle.sqlx_pool_marks.specs.Marks.{PendingTicket}

-- ---- of tickets

-- the ticket stands in the line
abbrev pub is_waiting : PendingTicket → Bool
is_waiting a = not a.left

-- the ticket has left the line
abbrev pub has_left : PendingTicket → Bool
has_left a = a.left

-- how many tickets wait
abbrev pub waiting_in : List PendingTicket → ℕ
waiting_in tickets = count_by is_waiting tickets

-- how many tickets have left the line
abbrev pub left_in : List PendingTicket → ℕ
left_in tickets = count_by has_left tickets

-- it has another number
abbrev pub is_another : ℕ → PendingTicket → Bool
is_another t a = not (t == a.ticket)

-- how many waiting tickets were asked before this one
abbrev pub before_in : ℕ → List PendingTicket → ℕ
before_in t tickets = waiting_in (take_while (is_another t) tickets)

-- this client asked it, and it has this number
abbrev pub is_asked_by : ℕ → ℕ → PendingTicket → Bool
is_asked_by k t a = (t == a.ticket) && (k == a.client)

-- this ticket, where this client asked it and it hasn't ended
abbrev pub asked_in : ℕ → ℕ → List PendingTicket → Option PendingTicket
asked_in k t tickets = find (is_asked_by k t) tickets

-- ---- of permits

-- the permits that no owned connection, leaked connection, left ticket or place for the minimum has
abbrev pub free_of : ℕ → ℕ → ℕ → ℕ → ℕ → ℕ
free_of max owned leaked left places = max - (owned + leaked + left + places)
