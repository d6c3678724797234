-- The marks that a script's events make in its pool, read off the events and their replies.
use Rattle.std.specs.Prelude.{ℕ, zero, suc, ◌+◌, ◌==◌, Bool, true, false, not, List, [], ◌∷◌, ◌++◌, if◌then◌else◌, map, take, Option, Some, None}
use Rattle.std.specs.List.{list_any}
use Rattle.sqlx_pool_marks.specs.declared.mark.Mark.{Mark}
use Rattle.sqlx_pool_marks.specs.declared.mark.Mark.TheVariants as mark
use Rattle.sqlx_pool_marks.specs.Marks.{PendingTicket, IdleEntry, tickets_of, idle_of, is_open, next_conn}
use Rattle.sqlx_pool_marks.specs.Counts.{asked_in}
use Rattle.sqlx_pool_marks.specs.FairLog.{rests}
use Rattle.sqlx_pool_marks.specs.EventTable.{Limits, may_pass_at, all_reaped_at}
use Rattle.sqlx_script.specs.declared.pool_line.PoolLine.{PoolLine}
use Rattle.sqlx_script.specs.declared.step.Event.{Event}
use Rattle.sqlx_script.specs.declared.step.Step.{Step}
use Rattle.sqlx_script.specs.declared.step.Step.TheVariants.{Ask, Poll, Cancel, Try, Give, End, Detach, Leak, Reap, Min, Close}
use Rattle.sqlx_script.specs.declared.reply.Reply.{Reply}
use Rattle.sqlx_script.specs.declared.reply.Reply.TheVariants as reply
use Rattle.sqlx_script_rules.specs.Pairs.{Pairs}

-- ---- the idle connections of a poll

-- the connection of the first that rests
abbrev pub first_of : List IdleEntry → Option ℕ
first_of [] = None
first_of (r ∷ rest) = Some r.conn

-- whether there is a ticket that stands in the line
abbrev pub in_line : Option PendingTicket → Bool
in_line None = false
in_line (Some a) = not a.left

-- whether this client asked the ticket, and it stands in the line
abbrev pub waits : ℕ → ℕ → List Mark → Bool
waits k t marks = in_line (asked_in k t (tickets_of marks))

-- whether this connection is one of those that rest
abbrev pub is_among : ℕ → List IdleEntry → Bool
is_among c idle = list_any (rests c) idle

-- ---- what a poll makes

-- connections that are tested in turn and refused: each is taken, and closed
abbrev pub refusing : List IdleEntry → List Mark
refusing [] = []
refusing (r ∷ rest) = mark.Taken r.conn ∷ mark.Closed r.conn ∷ refusing rest

-- the connections before this one are refused, and it is taken
abbrev pub reaching : ℕ → List IdleEntry → List Mark
reaching c [] = []
reaching c (r ∷ rest) = if c == r.conn then mark.Taken r.conn ∷ [] else mark.Taken r.conn ∷ mark.Closed r.conn ∷ reaching c rest

-- the tests of a poll: they end with the connection that is ready, where it was idle; else as many are refused as there may be
abbrev pub testing : ℕ → List IdleEntry → Option ℕ → List Mark
testing tries idle None = refusing (take tries idle)
testing tries idle (Some c) = if is_among c idle then reaching c idle else refusing (take tries idle)

-- the ticket leaves the line where it stands in it, and then idle connections are tested
abbrev pub trying : ℕ → ℕ → Bool → List IdleEntry → Option ℕ → List Mark
trying tries t true idle ready = mark.Left t ∷ testing tries idle ready
trying tries t false idle ready = []

-- a connection is opened, unless it was idle
abbrev pub opening : ℕ → ℕ → List IdleEntry → List Mark
opening c m idle = if is_among c idle then [] else mark.Opened c m ∷ []

-- what a poll with this reply makes, of a ticket that stands in the line or not, where these connections rest
abbrev pub polled : ℕ → ℕ → ℕ → ℕ → Bool → List IdleEntry → Reply → List Mark
polled tries m k t line idle reply.PoolClosed = mark.Ended t ∷ []
polled tries m k t line idle reply.PoolTimedOut = mark.Ended t ∷ []
polled tries m k t line idle (reply.Ready c) = trying tries t line idle (Some c) ++ (opening c m idle ++ (mark.Lent k c ∷ mark.Ended t ∷ []))
polled tries m k t line idle (reply.Backoff until) = trying tries t line idle None
polled tries m k t line idle reply.Io = trying tries t line idle None ++ (mark.Ended t ∷ [])
polled tries m k t line idle reply.DatabaseRefused = trying tries t line idle None ++ (mark.Ended t ∷ [])
polled tries m k t line idle other = []

-- ---- what the other events make

-- so many connections, numbered from n on, are opened for the minimum
abbrev pub openings : ℕ → ℕ → ℕ → List Mark
openings zero n m = []
openings (suc count) n m = mark.Opened n m ∷ mark.Kept n m ∷ openings count (suc n) m

-- what a give with this reply makes
abbrev pub given : List Mark → ℕ → ℕ → Reply → List Mark
given marks m c reply.Kept = mark.Kept c m ∷ []
given marks m c (reply.Closed n) = mark.Closed c ∷ openings n (next_conn marks) m
given marks m c other = []

-- what an end with this reply makes
abbrev pub ended : List Mark → ℕ → ℕ → Reply → List Mark
ended marks m c (reply.Closed n) = mark.Closed c ∷ openings n (next_conn marks) m
ended marks m c other = []

-- what a detach with this reply makes
abbrev pub detached : List Mark → ℕ → ℕ → Reply → List Mark
detached marks m c (reply.Detached n) = mark.Detached c ∷ openings n (next_conn marks) m
detached marks m c other = []

-- what a leak with this reply makes
abbrev pub leaked : List Mark → ℕ → ℕ → Reply → List Mark
leaked marks m c (reply.Leaked n) = mark.Leaked c ∷ openings n (next_conn marks) m
leaked marks m c other = []

-- the limits that the first line of a script sets
abbrev pub line_limits : PoolLine → Limits
line_limits pool = record { max_connections = pool.max; min_connections = pool.min; max_lifetime = pool.lifetime; idle_timeout = pool.idle }

-- connections may be lent, reaped or opened past the line
abbrev pub passes : PoolLine → List Mark → Bool
passes pool marks = may_pass_at pool.max 0 marks

-- the idle connections that are reaped at a moment
abbrev pub reaped_of : PoolLine → List Mark → ℕ → List IdleEntry
reaped_of pool marks m = all_reaped_at (line_limits pool) 0 marks m

-- the mark of an idle connection that is reaped
abbrev pub reaping : IdleEntry → Mark
reaping r = mark.Reaped r.conn

-- the mark of an idle connection that a close takes
abbrev pub closing : IdleEntry → Mark
closing r = mark.Closed r.conn

-- what a reap with this reply makes
abbrev pub reaped : PoolLine → List Mark → ℕ → Reply → List Mark
reaped pool marks m (reply.Reaped count n) = map reaping (reaped_of pool marks m) ++ openings n (next_conn marks) m
reaped pool marks m other = []

-- what a close makes: the first closes the idle connections, and a later one changes nothing
abbrev pub shut : List Mark → List Mark
shut marks = if is_open marks then mark.Shut ∷ map closing (idle_of marks) else []

-- ---- the marks of a script

-- what an event with this reply makes behind these marks
abbrev pub made : PoolLine → List Mark → ℕ → Step → Reply → List Mark
made pool marks m (Ask client) (reply.Ticket n) = mark.Asked n client (m + pool.timeout) ∷ []
made pool marks m (Ask client) other = []
made pool marks m (Poll client ticket answers) r = polled pool.tries m client ticket (waits client ticket marks) (idle_of marks) r
made pool marks m (Cancel client ticket) reply.Cancelled = mark.Ended ticket ∷ []
made pool marks m (Cancel client ticket) other = []
made pool marks m (Try client) (reply.Ready c) = mark.Taken c ∷ mark.Lent client c ∷ []
made pool marks m (Try client) other = []
made pool marks m (Give client c answers opens) r = given marks m c r
made pool marks m (End client c opens) r = ended marks m c r
made pool marks m (Detach client c opens) r = detached marks m c r
made pool marks m (Leak client c opens) r = leaked marks m c r
made pool marks m (Reap opens) r = reaped pool marks m r
made pool marks m (Min opens) (reply.Opened n) = openings n (next_conn marks) m
made pool marks m (Min opens) other = []
made pool marks m Close r = shut marks
made pool marks m other r = []

-- what a pair of an event and its reply adds to the marks before it
abbrev pub added : PoolLine → List Mark → Event × Reply → List Mark
added pool marks pair = made pool marks pair.0.moment.0 pair.0.step pair.1

-- the marks, and then those that these pairs add
unfoldable pub marks_after : PoolLine → List Mark → Pairs → List Mark
marks_after pool marks [] = marks
marks_after pool marks (pair ∷ pairs) = marks_after pool (marks ++ added pool marks pair) pairs

-- the marks of events and their replies
abbrev pub marks_of : PoolLine → Pairs → List Mark
marks_of pool pairs = marks_after pool [] pairs
