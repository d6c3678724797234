-- Worked scripts: the replies and the closing report, by computing the definitions.
use Rattle.std.specs.Prelude.{◌≡◌, ℕ, pos, true, false, List, [], ◌∷◌, ◌++◌, map, Some, refl}
use Rattle.sqlx_savepoints.specs.declared.level_text.LevelText.TheVariants as text
use Rattle.sqlx_script.specs.declared.answers.HookAnswer.TheVariants as hook
use Rattle.sqlx_script.specs.declared.answers.AfterConnectAnswer.TheVariants as set_up
use Rattle.sqlx_script.specs.declared.answers.ConnectAnswer.TheVariants as connect
use Rattle.sqlx_script.specs.declared.answers.StatementAnswer.TheVariants as met
use Rattle.sqlx_script.specs.declared.answers.PollAnswers.{PollAnswers}
use Rattle.sqlx_script.specs.declared.pool_line.PoolLine.{PoolLine}
use Rattle.sqlx_script.specs.declared.step.Event.{Event}
use Rattle.sqlx_script.specs.declared.step.Step.TheVariants as step
use Rattle.sqlx_script.specs.declared.reply.Reply.{Reply}
use Rattle.sqlx_script.specs.declared.reply.Reply.TheVariants as reply
use Rattle.sqlx_script.specs.declared.report.Report.{Report}
use Rattle.sqlx_script_rules.proofs.Worked.{plain_pool, good, refused_for_now, returns_well, at}
use Rattle.sqlx_script_rules.specs.ScriptMarks.{marks_after}
use Rattle.sqlx_script_rules.specs.ScriptLevels.{history_from}
use Rattle.sqlx_script_rules.specs.Tries.{tries_after}
use Rattle.sqlx_script_rules.specs.Answer.{answer, report_of}
use Rattle.sqlx_player.specs.Output.{pairs_after}
use Rattle.sqlx_script_rules.specs.Output.{pool_rules}

-- the replies to events, and the closing report
abbrev told : PoolLine → List Event → List Reply × Report
told pool events = let pairs = pairs_after pool_rules pool [] events in (map (λ (pair : Event × Reply). pair.1) pairs, report_of pool pairs)

-- One connection, two clients: the second waits until it is given back.
abbrev line_pool : PoolLine
line_pool = plain_pool 1 5000000

abbrev line_events : List Event
line_events =
    (at 0 (step.Ask 1)) ∷
    (at 0 (step.Poll 1 1 good)) ∷
    (at 0 (step.Ask 2)) ∷
    (at 1000000 (step.Poll 2 2 good)) ∷
    (at 2000000 (step.Give 2 1 returns_well 0)) ∷
    (at 2000000 (step.Give 1 1 returns_well 0)) ∷
    (at 2000000 (step.Poll 2 2 good)) ∷
    (at 2000000 (step.Poll 2 2 good)) ∷ []

line : told line_pool line_events ≡ ((reply.Ticket 1) ∷ (reply.Ready 1) ∷ (reply.Ticket 2) ∷ (reply.Waiting) ∷ (reply.NotHeld) ∷ (reply.Kept) ∷ (reply.Ready 1) ∷ (reply.NotHeld) ∷ [], record { held = 1; idle = 0; leaked = 0; waiting = 0 })
unfolding pairs_after answer report_of marks_after history_from tries_after
line = refl

-- A cancelled ticket leaves its place to the next.
abbrev cancelled_pool : PoolLine
cancelled_pool = plain_pool 1 100000000

abbrev cancelled_events : List Event
cancelled_events =
    (at 0 (step.Ask 1)) ∷
    (at 0 (step.Poll 1 1 good)) ∷
    (at 0 (step.Ask 2)) ∷
    (at 0 (step.Ask 3)) ∷
    (at 1000000 (step.Cancel 2 2)) ∷
    (at 1000000 (step.Give 1 1 returns_well 0)) ∷
    (at 1000000 (step.Poll 3 3 good)) ∷ []

cancelled : told cancelled_pool cancelled_events ≡ ((reply.Ticket 1) ∷ (reply.Ready 1) ∷ (reply.Ticket 2) ∷ (reply.Ticket 3) ∷ (reply.Cancelled) ∷ (reply.Kept) ∷ (reply.Ready 1) ∷ [], record { held = 1; idle = 0; leaked = 0; waiting = 0 })
unfolding pairs_after answer report_of marks_after history_from tries_after
cancelled = refl

-- A leaked connection keeps its permit for good.
abbrev leaks_pool : PoolLine
leaks_pool = plain_pool 1 5000000

abbrev leaks_events : List Event
leaks_events =
    (at 0 (step.Ask 1)) ∷
    (at 0 (step.Poll 1 1 good)) ∷
    (at 0 (step.Leak 1 1 0)) ∷
    (at 0 (step.Ask 2)) ∷
    (at 4000000 (step.Poll 2 2 good)) ∷
    (at 5000000 (step.Poll 2 2 good)) ∷ []

leaks : told leaks_pool leaks_events ≡ ((reply.Ticket 1) ∷ (reply.Ready 1) ∷ (reply.Leaked 0) ∷ (reply.Ticket 2) ∷ (reply.Waiting) ∷ (reply.PoolTimedOut) ∷ [], record { held = 0; idle = 0; leaked = 1; waiting = 0 })
unfolding pairs_after answer report_of marks_after history_from tries_after
leaks = refl

-- Three tickets, two connections, polled out of order.
abbrev in_order_pool : PoolLine
in_order_pool = plain_pool 2 9000000

abbrev in_order_events : List Event
in_order_events =
    (at 0 (step.Ask 1)) ∷
    (at 0 (step.Ask 2)) ∷
    (at 0 (step.Ask 3)) ∷
    (at 0 (step.Poll 3 3 good)) ∷
    (at 0 (step.Poll 2 2 good)) ∷
    (at 0 (step.Poll 3 3 good)) ∷
    (at 0 (step.Poll 1 1 good)) ∷
    (at 0 (step.Poll 3 3 good)) ∷ []

in_order : told in_order_pool in_order_events ≡ ((reply.Ticket 1) ∷ (reply.Ticket 2) ∷ (reply.Ticket 3) ∷ (reply.Waiting) ∷ (reply.Ready 1) ∷ (reply.Waiting) ∷ (reply.Ready 2) ∷ (reply.Waiting) ∷ [], record { held = 2; idle = 0; leaked = 0; waiting = 1 })
unfolding pairs_after answer report_of marks_after history_from tries_after
in_order = refl

-- Waits of a connect that is refused for now: the first is not capped, each later one doubles.
abbrev doubling_pool : PoolLine
doubling_pool = plain_pool 1 100000000

abbrev doubling_events : List Event
doubling_events =
    (at 0 (step.Ask 1)) ∷
    (at 0 (step.Poll 1 1 refused_for_now)) ∷
    (at 5000000 (step.Poll 1 1 good)) ∷
    (at 10000000 (step.Poll 1 1 refused_for_now)) ∷
    (at 30000000 (step.Poll 1 1 refused_for_now)) ∷
    (at 50000000 (step.Poll 1 1 good)) ∷ []

doubling : told doubling_pool doubling_events ≡ ((reply.Ticket 1) ∷ (reply.Backoff 10000000) ∷ (reply.Backoff 10000000) ∷ (reply.Backoff 30000000) ∷ (reply.Backoff 50000000) ∷ (reply.Ready 1) ∷ [], record { held = 1; idle = 0; leaked = 0; waiting = 0 })
unfolding pairs_after answer report_of marks_after history_from tries_after
doubling = refl

-- The cap is a fifth of the time to the deadline.
abbrev capped_pool : PoolLine
capped_pool = plain_pool 1 40000000

abbrev capped_events : List Event
capped_events =
    (at 0 (step.Ask 1)) ∷
    (at 0 (step.Poll 1 1 refused_for_now)) ∷
    (at 10000000 (step.Poll 1 1 refused_for_now)) ∷
    (at 18000000 (step.Poll 1 1 refused_for_now)) ∷
    (at 40000000 (step.Poll 1 1 good)) ∷ []

capped : told capped_pool capped_events ≡ ((reply.Ticket 1) ∷ (reply.Backoff 10000000) ∷ (reply.Backoff 18000000) ∷ (reply.Backoff 26000000) ∷ (reply.PoolTimedOut) ∷ [], record { held = 0; idle = 0; leaked = 0; waiting = 0 })
unfolding pairs_after answer report_of marks_after history_from tries_after
capped = refl

-- A refused ping closes the connection, and a connect follows.
abbrev refused_ping_pool : PoolLine
refused_ping_pool = record (plain_pool 1 100000000) { test_before_acquire = true }

abbrev refused_ping_events : List Event
refused_ping_events =
    (at 0 (step.Ask 1)) ∷
    (at 0 (step.Poll 1 1 good)) ∷
    (at 0 (step.Give 1 1 returns_well 0)) ∷
    (at 1000000 (step.Ask 1)) ∷
    (at 1000000 (step.Poll 1 2 (record good { ping = false; connect = connect.ConnectIo }))) ∷
    (at 2000000 (step.Ask 1)) ∷
    (at 2000000 (step.Poll 1 3 good)) ∷ []

refused_ping : told refused_ping_pool refused_ping_events ≡ ((reply.Ticket 1) ∷ (reply.Ready 1) ∷ (reply.Kept) ∷ (reply.Ticket 2) ∷ (reply.Io) ∷ (reply.Ticket 3) ∷ (reply.Ready 2) ∷ [], record { held = 1; idle = 0; leaked = 0; waiting = 0 })
unfolding pairs_after answer report_of marks_after history_from tries_after
refused_ping = refl

-- Nested levels.
abbrev nested_pool : PoolLine
nested_pool = plain_pool 1 5000000

abbrev nested_events : List Event
nested_events =
    (at 0 (step.Ask 1)) ∷
    (at 0 (step.Poll 1 1 good)) ∷
    (at 0 (step.Begin 1 1 met.Runs)) ∷
    (at 0 (step.Put 1 1 1 met.Runs (pos 1))) ∷
    (at 0 (step.Begin 1 1 met.Runs)) ∷
    (at 0 (step.Put 1 1 1 met.Runs (pos 2))) ∷
    (at 0 (step.Rollback 1 1 met.Runs)) ∷
    (at 0 (step.Begin 1 1 met.Runs)) ∷
    (at 0 (step.Put 1 1 2 met.Runs (pos 3))) ∷
    (at 0 (step.Commit 1 1 met.Runs)) ∷
    (at 0 (step.Commit 1 1 met.Runs)) ∷
    (at 0 (step.Get 1 1 1 met.Runs)) ∷
    (at 0 (step.Get 1 1 2 met.Runs)) ∷ []

nested : told nested_pool nested_events ≡ ((reply.Ticket 1) ∷ (reply.Ready 1) ∷ (reply.Level 1 text.Begin) ∷ (reply.Written 1) ∷ (reply.Level 2 (text.Savepoint 1)) ∷ (reply.Written 1) ∷ (reply.Level 1 (text.RollbackTo 1)) ∷ (reply.Level 2 (text.Savepoint 1)) ∷ (reply.Written 1) ∷ (reply.Level 1 (text.Release 1)) ∷ (reply.Level 0 text.Commit) ∷ (reply.Value (pos 1)) ∷ (reply.Value (pos 3)) ∷ [], record { held = 1; idle = 0; leaked = 0; waiting = 0 })
unfolding pairs_after answer report_of marks_after history_from tries_after
nested = refl

-- No write while another connection has a level open.
abbrev busy_pool : PoolLine
busy_pool = plain_pool 2 5000000

abbrev busy_events : List Event
busy_events =
    (at 0 (step.Ask 1)) ∷
    (at 0 (step.Poll 1 1 good)) ∷
    (at 0 (step.Ask 2)) ∷
    (at 0 (step.Poll 2 2 good)) ∷
    (at 0 (step.Put 2 2 1 met.Runs (pos 5))) ∷
    (at 0 (step.Begin 1 1 met.Runs)) ∷
    (at 0 (step.Put 1 1 1 met.Runs (pos 7))) ∷
    (at 0 (step.Put 2 2 1 met.Runs (pos 8))) ∷
    (at 0 (step.Get 2 2 1 met.Runs)) ∷
    (at 0 (step.Get 1 1 1 met.Runs)) ∷
    (at 0 (step.Rollback 1 1 met.Runs)) ∷
    (at 0 (step.Get 1 1 1 met.Runs)) ∷
    (at 0 (step.Del 2 2 1 met.Runs)) ∷
    (at 0 (step.Del 2 2 1 met.Runs)) ∷ []

busy : told busy_pool busy_events ≡ ((reply.Ticket 1) ∷ (reply.Ready 1) ∷ (reply.Ticket 2) ∷ (reply.Ready 2) ∷ (reply.Written 1) ∷ (reply.Level 1 text.Begin) ∷ (reply.Written 1) ∷ (reply.DatabaseBusy) ∷ (reply.Value (pos 5)) ∷ (reply.Value (pos 7)) ∷ (reply.Level 0 text.Rollback) ∷ (reply.Value (pos 5)) ∷ (reply.Written 1) ∷ (reply.Written 0) ∷ [], record { held = 2; idle = 0; leaked = 0; waiting = 0 })
unfolding pairs_after answer report_of marks_after history_from tries_after
busy = refl

-- A connection that comes back with an open level is closed, and its writes are gone.
abbrev left_open_pool : PoolLine
left_open_pool = plain_pool 1 5000000

abbrev left_open_events : List Event
left_open_events =
    (at 0 (step.Ask 1)) ∷
    (at 0 (step.Poll 1 1 good)) ∷
    (at 0 (step.Begin 1 1 met.Runs)) ∷
    (at 0 (step.Put 1 1 4 met.Runs (pos 9))) ∷
    (at 0 (step.Give 1 1 returns_well 0)) ∷
    (at 0 (step.Ask 2)) ∷
    (at 0 (step.Poll 2 2 good)) ∷
    (at 0 (step.Get 2 2 4 met.Runs)) ∷ []

left_open : told left_open_pool left_open_events ≡ ((reply.Ticket 1) ∷ (reply.Ready 1) ∷ (reply.Level 1 text.Begin) ∷ (reply.Written 1) ∷ (reply.Closed 0) ∷ (reply.Ticket 2) ∷ (reply.Ready 2) ∷ (reply.RowNotFound) ∷ [], record { held = 1; idle = 0; leaked = 0; waiting = 0 })
unfolding pairs_after answer report_of marks_after history_from tries_after
left_open = refl

-- A refused commit rolls its level back; custom begins; a level that is given up.
abbrev refused_commit_pool : PoolLine
refused_commit_pool = plain_pool 1 5000000

abbrev refused_commit_events : List Event
refused_commit_events =
    (at 0 (step.Ask 1)) ∷
    (at 0 (step.Poll 1 1 good)) ∷
    (at 0 (step.Begin 1 1 met.Runs)) ∷
    (at 0 (step.Custom 1 1 true met.Runs)) ∷
    (at 0 (step.Put 1 1 4 met.Runs (pos 9))) ∷
    (at 0 (step.Commit 1 1 met.StatementIo)) ∷
    (at 0 (step.Get 1 1 4 met.Runs)) ∷
    (at 0 (step.Custom 1 1 false met.Runs)) ∷
    (at 0 (step.Custom 1 1 true met.Runs)) ∷
    (at 0 (step.GiveUp 1 1)) ∷
    (at 0 (step.GiveUp 1 1)) ∷ []

refused_commit : told refused_commit_pool refused_commit_events ≡ ((reply.Ticket 1) ∷ (reply.Ready 1) ∷ (reply.Level 1 text.Begin) ∷ (reply.InvalidSavePointStatement) ∷ (reply.Written 1) ∷ (reply.Io) ∷ (reply.RowNotFound) ∷ (reply.BeginFailed) ∷ (reply.Level 1 text.BeginImmediate) ∷ (reply.Level 0 text.Rollback) ∷ (reply.NotHeld) ∷ [], record { held = 1; idle = 0; leaked = 0; waiting = 0 })
unfolding pairs_after answer report_of marks_after history_from tries_after
refused_commit = refl

-- A closed pool.
abbrev closing_pool : PoolLine
closing_pool = plain_pool 1 5000000

abbrev closing_events : List Event
closing_events =
    (at 0 (step.Ask 1)) ∷
    (at 0 (step.Poll 1 1 good)) ∷
    (at 0 (step.Ask 2)) ∷
    (at 0 (step.CloseState)) ∷
    (at 1000000 (step.Close)) ∷
    (at 1000000 (step.Ask 3)) ∷
    (at 1000000 (step.CloseState)) ∷
    (at 1000000 (step.Poll 2 2 good)) ∷
    (at 1000000 (step.Give 1 1 returns_well 0)) ∷
    (at 1000000 (step.CloseState)) ∷
    (at 1000000 (step.Try 1)) ∷ []

closing : told closing_pool closing_events ≡ ((reply.Ticket 1) ∷ (reply.Ready 1) ∷ (reply.Ticket 2) ∷ (reply.StateOpen) ∷ (reply.Closing 0) ∷ (reply.PoolClosed) ∷ (reply.StateClosing) ∷ (reply.PoolClosed) ∷ (reply.Closed 0) ∷ (reply.StateClosed) ∷ (reply.NothingToLend) ∷ [], record { held = 0; idle = 0; leaked = 0; waiting = 0 })
unfolding pairs_after answer report_of marks_after history_from tries_after
closing = refl

-- The minimum, a detached connection and a reap.
abbrev minimum_pool : PoolLine
minimum_pool = record (plain_pool 3 100000000) { min = 2; idle = (Some 10000000) }

abbrev minimum_events : List Event
minimum_events =
    (at 0 (step.Min 2)) ∷
    (at 0 (step.Ask 1)) ∷
    (at 0 (step.Poll 1 1 good)) ∷
    (at 0 (step.Detach 1 1 1)) ∷
    (at 1000000 (step.Ask 1)) ∷
    (at 1000000 (step.Poll 1 2 good)) ∷
    (at 1000000 (step.Give 1 2 returns_well 0)) ∷
    (at 11000000 (step.Reap 1)) ∷ []

minimum : told minimum_pool minimum_events ≡ ((reply.Opened 2) ∷ (reply.Ticket 1) ∷ (reply.Ready 1) ∷ (reply.Detached 1) ∷ (reply.Ticket 2) ∷ (reply.Ready 2) ∷ (reply.Kept) ∷ (reply.Reaped 1 1) ∷ [], record { held = 0; idle = 2; leaked = 0; waiting = 0 })
unfolding pairs_after answer report_of marks_after history_from tries_after
minimum = refl

-- At the deadline a poll is too late; a cancelled backoff frees its permit.
abbrev late_pool : PoolLine
late_pool = plain_pool 1 5000000

abbrev late_events : List Event
late_events =
    (at 0 (step.Ask 1)) ∷
    (at 5000000 (step.Poll 1 1 good)) ∷
    (at 5000000 (step.Poll 1 1 good)) ∷
    (at 5000000 (step.Ask 2)) ∷
    (at 5000000 (step.Poll 2 2 refused_for_now)) ∷
    (at 5000000 (step.Ask 3)) ∷
    (at 5000000 (step.Poll 3 3 good)) ∷
    (at 6000000 (step.Cancel 2 2)) ∷
    (at 6000000 (step.Cancel 2 2)) ∷
    (at 6000000 (step.Poll 3 3 good)) ∷ []

late : told late_pool late_events ≡ ((reply.Ticket 1) ∷ (reply.PoolTimedOut) ∷ (reply.NotHeld) ∷ (reply.Ticket 2) ∷ (reply.Backoff 15000000) ∷ (reply.Ticket 3) ∷ (reply.Waiting) ∷ (reply.Cancelled) ∷ (reply.NotHeld) ∷ (reply.Ready 1) ∷ [], record { held = 1; idle = 0; leaked = 0; waiting = 0 })
unfolding pairs_after answer report_of marks_after history_from tries_after
late = refl

-- Hooks that fail, say no, or leave a level open; age 5 is kept, age 6 is not.
abbrev hooks_pool : PoolLine
hooks_pool = record (plain_pool 1 90000000) { lifetime = (Some 5000000); after_connect = true; before_acquire = true; after_release = true }

abbrev hooks_events : List Event
hooks_events =
    (at 0 (step.Ask 1)) ∷
    (at 0 (step.Poll 1 1 (record good { after_connect = set_up.SetUpFails }))) ∷
    (at 10000000 (step.Poll 1 1 good)) ∷
    (at 15000000 (step.Give 1 1 returns_well 0)) ∷
    (at 15000000 (step.Ask 1)) ∷
    (at 15000000 (step.Poll 1 2 (record good { before_acquire = hook.Refuses }))) ∷
    (at 15000000 (step.Give 1 2 (record returns_well { after_release = hook.LeavesOpen }) 0)) ∷
    (at 15000000 (step.Ask 1)) ∷
    (at 15000000 (step.Poll 1 3 good)) ∷
    (at 21000000 (step.Give 1 3 returns_well 0)) ∷ []

hooks : told hooks_pool hooks_events ≡ ((reply.Ticket 1) ∷ (reply.Backoff 10000000) ∷ (reply.Ready 1) ∷ (reply.Kept) ∷ (reply.Ticket 2) ∷ (reply.Ready 2) ∷ (reply.Closed 0) ∷ (reply.Ticket 3) ∷ (reply.Ready 3) ∷ (reply.Closed 0) ∷ [], record { held = 0; idle = 0; leaked = 0; waiting = 0 })
unfolding pairs_after answer report_of marks_after history_from tries_after
hooks = refl

-- An `after_connect` that leaves a level open is a refused try.
abbrev hook_leaves_level_pool : PoolLine
hook_leaves_level_pool = record (plain_pool 1 90000000) { after_connect = true; before_acquire = true; after_release = true }

abbrev hook_leaves_level_events : List Event
hook_leaves_level_events =
    (at 0 (step.Ask 1)) ∷
    (at 0 (step.Poll 1 1 (record good { after_connect = set_up.SetUpLeavesOpen }))) ∷
    (at 9000000 (step.Poll 1 1 good)) ∷
    (at 10000000 (step.Poll 1 1 good)) ∷
    (at 11000000 (step.Give 1 1 (record returns_well { after_release = hook.Fails }) 0)) ∷
    (at 11000000 (step.Try 1)) ∷ []

hook_leaves_level : told hook_leaves_level_pool hook_leaves_level_events ≡ ((reply.Ticket 1) ∷ (reply.Backoff 10000000) ∷ (reply.Backoff 10000000) ∷ (reply.Ready 1) ∷ (reply.Closed 0) ∷ (reply.NothingToLend) ∷ [], record { held = 0; idle = 0; leaked = 0; waiting = 0 })
unfolding pairs_after answer report_of marks_after history_from tries_after
hook_leaves_level = refl

-- No event.
abbrev empty_pool : PoolLine
empty_pool = plain_pool 1 5000000

abbrev empty_events : List Event
empty_events =
    []

empty : told empty_pool empty_events ≡ ([], record { held = 0; idle = 0; leaked = 0; waiting = 0 })
unfolding pairs_after answer report_of marks_after history_from tries_after
empty = refl

-- ---- several tests a poll

-- Three idle connections, of which a poll may test two.
abbrev two_tests : PoolLine
two_tests = record (plain_pool 3 100000000) { test_before_acquire = true; tries = 2; counts_tests = true }

abbrev three_idle : List Event
three_idle =
    (at 0 (step.Ask 1)) ∷
    (at 0 (step.Ask 1)) ∷
    (at 0 (step.Ask 1)) ∷
    (at 0 (step.Poll 1 1 good)) ∷
    (at 0 (step.Poll 1 2 good)) ∷
    (at 0 (step.Poll 1 3 good)) ∷
    (at 1000000 (step.Give 1 1 returns_well 0)) ∷
    (at 1000000 (step.Give 1 2 returns_well 0)) ∷
    (at 1000000 (step.Give 1 3 returns_well 0)) ∷ []

-- no ping of so many tests is answered
abbrev pings_refused : ℕ → PollAnswers
pings_refused n = record good { ping = false; tests = n }

abbrev kept_three : List Reply
kept_three = (reply.Ticket 1) ∷ (reply.Ticket 2) ∷ (reply.Ticket 3) ∷ (reply.Ready 1) ∷ (reply.Ready 2) ∷ (reply.Ready 3) ∷ (reply.Kept) ∷ (reply.Kept) ∷ (reply.Kept) ∷ []

-- The second test passes; where both are refused a new connection is opened.
abbrev next_idle_events : List Event
next_idle_events =
    three_idle ++
    (at 2000000 (step.Ask 2)) ∷
    (at 2000000 (step.Poll 2 4 (pings_refused 1))) ∷
    (at 2000000 (step.Ask 2)) ∷
    (at 2000000 (step.Poll 2 5 (pings_refused 2))) ∷ []

next_idle : told two_tests next_idle_events ≡ (kept_three ++ (reply.Ticket 4) ∷ (reply.Ready 2) ∷ (reply.Ticket 5) ∷ (reply.Ready 4) ∷ [], record { held = 2; idle = 0; leaked = 0; waiting = 0 })
unfolding pairs_after answer report_of marks_after history_from tries_after
next_idle = refl

-- Two are refused, and so is the connect: the third stays idle.
abbrev refused_behind_events : List Event
refused_behind_events = three_idle ++ (at 2000000 (step.Ask 2)) ∷ (at 2000000 (step.Poll 2 4 (record (pings_refused 3) { connect = connect.ConnectIo }))) ∷ []

refused_behind : told two_tests refused_behind_events ≡ (kept_three ++ (reply.Ticket 4) ∷ (reply.Io) ∷ [], record { held = 0; idle = 1; leaked = 0; waiting = 0 })
unfolding pairs_after answer report_of marks_after history_from tries_after
refused_behind = refl

-- A count of no test: the letters are answered by none, and the first connection passes.
abbrev no_test_events : List Event
no_test_events = three_idle ++ (at 2000000 (step.Ask 2)) ∷ (at 2000000 (step.Poll 2 4 (pings_refused 0))) ∷ []

no_test : told two_tests no_test_events ≡ (kept_three ++ (reply.Ticket 4) ∷ (reply.Ready 1) ∷ [], record { held = 1; idle = 2; leaked = 0; waiting = 0 })
unfolding pairs_after answer report_of marks_after history_from tries_after
no_test = refl
