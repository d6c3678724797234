-- The reply to an event, and the closing report, read off the events and replies before it.
use Rattle.std.specs.Prelude.{ℕ, zero, suc, ◌-◌, ◌==◌, ◌&&◌, ◌||◌, Bool, not, List, [], ◌∷◌, ◌++◌, length, map, take, min, if◌then◌else◌, Option, Some, None}
use Rattle.std.specs.List.{list_any}
use Rattle.sqlx_pool_marks.specs.declared.mark.Mark.{Mark}
use Rattle.sqlx_pool_marks.specs.declared.mark.Mark.TheVariants as mark
use Rattle.sqlx_pool_marks.specs.Marks.{PendingTicket, IdleEntry, tickets_of, loans_of, idle_of, owner_of, leaked_of, is_shut, is_open, next_ticket, next_conn}
use Rattle.sqlx_pool_marks.specs.Counts.{asked_in}
use Rattle.sqlx_pool_marks.specs.EventTable.{closes_at, size_at, is_all_in_at}
use Rattle.sqlx_pool_marks.specs.PollTable.{turn_at_rest, is_first_at}
use Rattle.sqlx_pool_marks.specs.declared.turn.Turn.{Turn}
use Rattle.sqlx_pool_marks.specs.declared.turn.Turn.TheVariants as turn
use Rattle.sqlx_script.specs.declared.answers.PollAnswers.{PollAnswers}
use Rattle.sqlx_script.specs.declared.answers.GiveAnswers.{GiveAnswers}
use Rattle.sqlx_script.specs.declared.answers.ConnectAnswer.{ConnectAnswer}
use Rattle.sqlx_script.specs.declared.answers.ConnectAnswer.TheVariants as connect
use Rattle.sqlx_script.specs.declared.pool_line.PoolLine.{PoolLine}
use Rattle.sqlx_script.specs.declared.step.Event.{Event}
use Rattle.sqlx_script.specs.declared.step.Step.{Step}
use Rattle.sqlx_script.specs.declared.step.Step.TheVariants.{Ask, Poll, Cancel, Try, Give, End, Detach, Leak, Reap, Min, CloseState, Close}
use Rattle.sqlx_script.specs.declared.reply.Reply.{Reply}
use Rattle.sqlx_script.specs.declared.reply.Reply.TheVariants as reply
use Rattle.sqlx_script.specs.declared.report.Report.{Report}
use Rattle.sqlx_script.specs.Built.{accepts, sets_up}
use Rattle.sqlx_savepoints.specs.Changes.{History}
use Rattle.sqlx_savepoints.specs.Brackets.{depth}
use Rattle.sqlx_script_rules.specs.ScriptLevels.{owns, Statement, statement_of, statement_reply, history_of}
use Rattle.sqlx_script_rules.specs.Tries.{Tries, tries_of, until_of, until_after}
use Rattle.sqlx_script_rules.specs.ScriptMarks.{marks_of, first_of, line_limits, passes, reaped_of, reaping}
use Rattle.sqlx_script_rules.specs.Pairs.{Pairs}

-- ---- polls

-- an idle connection passes a test that the letters of the poll answer
abbrev pub passes_test : PoolLine → PollAnswers → Bool
passes_test pool answers = (not pool.test_before_acquire || answers.ping) && (not pool.before_acquire || accepts answers.before_acquire)

-- the new connection is set up
abbrev pub is_set_up : PoolLine → PollAnswers → Bool
is_set_up pool answers = not pool.after_connect || sets_up answers.after_connect

-- the reply where a connect is tried: the next connection is number c, and a refused try is due again at `until`
abbrev pub connect_reply : PoolLine → PollAnswers → ℕ → ℕ → ConnectAnswer → Reply
connect_reply pool answers c until connect.Connected = if is_set_up pool answers then reply.Ready c else reply.Backoff until
connect_reply pool answers c until connect.Transient = reply.Backoff until
connect_reply pool answers c until connect.ConnectIo = reply.Io
connect_reply pool answers c until connect.ConnectDatabase = reply.DatabaseRefused

-- how many tests of a poll are refused: the letters answer the first ones, and each later one is accepted
abbrev pub refused_tests : PoolLine → PollAnswers → ℕ
refused_tests pool answers = if passes_test pool answers then 0 else answers.tests

-- the connection behind so many others
abbrev pub conn_at : ℕ → List IdleEntry → Option ℕ
conn_at n [] = None
conn_at zero (r ∷ rest) = Some r.conn
conn_at (suc n) (r ∷ rest) = conn_at n rest

-- the idle connection that passes its test: the one behind those that are refused, among those that the poll may test
abbrev pub passing_of : PoolLine → PollAnswers → List IdleEntry → Option ℕ
passing_of pool answers idle = conn_at (refused_tests pool answers) (take pool.tries idle)

-- the reply where idle connections are tested: one passes, or else a connect is tried
abbrev pub idle_reply : Option ℕ → Reply → Reply
idle_reply None connecting = connecting
idle_reply (Some c) connecting = reply.Ready c

-- the reply to a poll by its turn, where this idle connection passes its test; where none does, a connect is tried
abbrev pub turn_reply : Option ℕ → Reply → Turn → Reply
turn_reply passing connecting turn.NotHeld = reply.NotHeld
turn_reply passing connecting turn.Closed = reply.PoolClosed
turn_reply passing connecting turn.TimedOut = reply.PoolTimedOut
turn_reply passing connecting turn.Waiting = reply.Waiting
turn_reply passing connecting (turn.Backoff until) = reply.Backoff until
turn_reply passing connecting turn.Test = idle_reply passing connecting
turn_reply passing connecting turn.Connect = connecting
turn_reply passing connecting turn.Exhausted = connecting

-- the turn of a ticket that hasn't ended; a script's pool never runs out of numbers, so none counts as drawn
abbrev pub ticket_turn : PoolLine → List Mark → ℕ → Option Tries → PendingTicket → Turn
ticket_turn pool marks m tries a =
    turn_at_rest m (is_first_at pool.max 0 marks a.ticket) (list_any is_shut marks) 0 (idle_of marks) a.deadline a.left (until_of tries)

-- the reply to a poll of a ticket that hasn't ended
abbrev pub ticket_reply : PoolLine → PollAnswers → List Mark → ℕ → Option Tries → PendingTicket → Reply
ticket_reply pool answers marks m tries a =
    let connecting = connect_reply pool answers (next_conn marks) (until_after m a.deadline tries) answers.connect in
    turn_reply (passing_of pool answers (idle_of marks)) connecting (ticket_turn pool marks m tries a)

-- the reply to a poll
abbrev pub poll_reply : PoolLine → PollAnswers → List Mark → ℕ → Option Tries → Option PendingTicket → Reply
poll_reply pool answers marks m tries None = reply.NotHeld
poll_reply pool answers marks m tries (Some a) = ticket_reply pool answers marks m tries a

-- ---- the other events of the pool

-- the reply to a cancel
abbrev pub cancel_reply : Option PendingTicket → Reply
cancel_reply None = reply.NotHeld
cancel_reply (Some a) = reply.Cancelled

-- the reply to a try
abbrev pub try_reply : Bool → Option ℕ → Reply
try_reply passes None = reply.NothingToLend
try_reply passes (Some c) = if passes then reply.Ready c else reply.NothingToLend

-- the connection that is given back is kept
abbrev pub is_kept : PoolLine → GiveAnswers → List Mark → History → ℕ → ℕ → Bool
is_kept pool answers marks past m c = not (closes_at (line_limits pool) marks c m) && (not pool.after_release || accepts answers.after_release) && (depth c past == 0) && answers.ping

-- how many connections are opened for the minimum behind these marks, where so many connects succeed
abbrev pub opened_for_minimum : PoolLine → List Mark → ℕ → ℕ
opened_for_minimum pool marks opens = if passes pool marks then min opens (min pool.min pool.max - size_at 0 marks) else 0

-- the reply to a give of a connection that the client owns
abbrev pub give_reply : PoolLine → GiveAnswers → List Mark → History → ℕ → ℕ → ℕ → Reply
give_reply pool answers marks past m c opens =
    if is_kept pool answers marks past m c then reply.Kept else reply.Closed (opened_for_minimum pool (marks ++ mark.Closed c ∷ []) opens)

-- the reply to a question how far the close has come
abbrev pub close_state : List Mark → Reply
close_state marks =
    if is_open marks then reply.StateOpen else
    if is_all_in_at marks then reply.StateClosed else reply.StateClosing

-- ---- the answer

-- the reply to a step of the pool, behind these marks and tries
abbrev pub pool_reply : PoolLine → Pairs → List Mark → History → ℕ → Step → Reply
pool_reply pool pairs marks past m (Ask client) = if is_open marks then reply.Ticket (next_ticket marks) else reply.PoolClosed
pool_reply pool pairs marks past m (Poll client ticket answers) = poll_reply pool answers marks m (tries_of ticket pairs) (asked_in client ticket (tickets_of marks))
pool_reply pool pairs marks past m (Cancel client ticket) = cancel_reply (asked_in client ticket (tickets_of marks))
pool_reply pool pairs marks past m (Try client) = try_reply (passes pool marks) (first_of (idle_of marks))
pool_reply pool pairs marks past m (Give client c answers opens) = if owns client (owner_of c marks) then give_reply pool answers marks past m c opens else reply.NotHeld
pool_reply pool pairs marks past m (End client c opens) =
    if owns client (owner_of c marks) then reply.Closed (opened_for_minimum pool (marks ++ mark.Closed c ∷ []) opens) else reply.NotHeld
pool_reply pool pairs marks past m (Detach client c opens) =
    if owns client (owner_of c marks) then reply.Detached (opened_for_minimum pool (marks ++ mark.Detached c ∷ []) opens) else reply.NotHeld
pool_reply pool pairs marks past m (Leak client c opens) =
    if owns client (owner_of c marks) then reply.Leaked (opened_for_minimum pool (marks ++ mark.Leaked c ∷ []) opens) else reply.NotHeld
pool_reply pool pairs marks past m (Reap opens) =
    let beyond = reaped_of pool marks m in reply.Reaped (length beyond) (opened_for_minimum pool (marks ++ map reaping beyond) opens)
pool_reply pool pairs marks past m (Min opens) = reply.Opened (opened_for_minimum pool marks opens)
pool_reply pool pairs marks past m CloseState = close_state marks
pool_reply pool pairs marks past m Close = reply.Closing (if is_open marks then length (idle_of marks) else 0)
pool_reply pool pairs marks past m other = reply.NotHeld

-- the reply to a statement, or else to a step of the pool
abbrev pub reply_at : PoolLine → Pairs → List Mark → History → ℕ → Step → Option Statement → Reply
reply_at pool pairs marks past m step (Some s) = statement_reply marks past s
reply_at pool pairs marks past m step None = pool_reply pool pairs marks past m step

-- the reply to an event behind these events and replies
unfoldable pub answer : PoolLine → Pairs → Event → Reply
answer pool pairs event = reply_at pool pairs (marks_of pool pairs) (history_of pool pairs) event.moment.0 event.step (statement_of event.step)

-- the report of a pool behind these marks
abbrev pub report_at : List Mark → Report
report_at marks = record { held = length (loans_of marks); idle = length (idle_of marks); leaked = leaked_of marks; waiting = length (tickets_of marks) }

-- the closing report behind these events and replies
unfoldable pub report_of : PoolLine → Pairs → Report
report_of pool pairs = report_at (marks_of pool pairs)
