-- What a poll comes to at first, by the tickets, permits and idle connections that there are.
use Rattle.std.specs.Prelude.{ℕ, ◌^◌, Bool, List, [], ◌∷◌, Option, Some, None, if◌then◌else◌, nat_le, nat_lt}
use Rattle.std.specs.List.{list_any}
use Rattle.sqlx_pool_marks.specs.declared.mark.Mark.{Mark}
use Rattle.sqlx_pool_marks.specs.declared.turn.Turn.{Turn}
use Rattle.sqlx_pool_marks.specs.declared.turn.Turn.TheVariants.{NotHeld, Closed, TimedOut, Exhausted, Waiting, Backoff, Test, Connect}
use Rattle.sqlx_pool_marks.specs.Marks.{PendingTicket, tickets_of, idle_of, is_shut, next_conn}
use Rattle.sqlx_pool_marks.specs.Counts.{asked_in, before_in}
use Rattle.sqlx_pool_marks.specs.EventTable.{free_at}

-- the first idle connection is tested; with none idle, one is connected
abbrev pub first_idle : {X : Type 0} → List X → Turn
first_idle [] = Connect
first_idle (x ∷ rest) = Test

-- a try, where the numbers of connections aren't used up
abbrev pub numbered : ℕ → Turn → Turn
numbered next_conn try = if nat_lt (2 ^ 63) next_conn then Exhausted else try

-- A ticket of an open pool, in time. In the line it waits unless it is entitled. In backoff its next try is due at a moment.
abbrev pub in_time : {X : Type 0} → ℕ → Bool → ℕ → List X → Bool → ℕ → Turn
in_time moment entitled next_conn idle left until =
    if left then (if nat_lt moment until then Backoff until else numbered next_conn Connect) else (if entitled then numbered next_conn (first_idle idle) else Waiting)

-- The first that applies to a ticket of which no step is under way: the pool is closed; the deadline came; the ticket's own place decides.
abbrev pub turn_at_rest : {X : Type 0} → ℕ → Bool → Bool → ℕ → List X → ℕ → Bool → ℕ → Turn
turn_at_rest moment entitled shut next_conn idle deadline left until =
    if shut then Closed else (if nat_le deadline moment then TimedOut else in_time moment entitled next_conn idle left until)

-- ---- by the marks

-- the ticket is entitled: fewer waiting tickets precede it than permits are free, in a pool of this maximum that holds so many places
abbrev pub is_first_at : ℕ → ℕ → List Mark → ℕ → Bool
is_first_at max places marks ticket = nat_lt (before_in ticket (tickets_of marks)) (free_at max places marks)

-- the turn of a ticket that was found or not
abbrev pub turn_of : ℕ → ℕ → List Mark → ℕ → ℕ → Option PendingTicket → Turn
turn_of max places marks moment until None = NotHeld
turn_of max places marks moment until (Some a) =
    turn_at_rest moment (is_first_at max places marks a.ticket) (list_any is_shut marks) (next_conn marks) (idle_of marks) a.deadline a.left until

-- The turn of a poll at a moment behind these marks, in a pool of this maximum that holds so many places, where no step of the ticket is under way; a ticket that has left the line is in backoff until then.
abbrev pub turn : ℕ → ℕ → List Mark → ℕ → ℕ → ℕ → ℕ → Turn
turn max places marks client ticket moment until = turn_of max places marks moment until (asked_in client ticket (tickets_of marks))
