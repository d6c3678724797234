-- What an answer of the pool is in numbers.
use Rattle.std.specs.Prelude.{ℕ, ◌-◌, ◌^◌, min, Bool, true, false, Option, Some, None}
use Rattle.sqlx_pool_lists.specs.declared.steps.Lent.{Lent}
use Rattle.sqlx_pool_lists.specs.declared.steps.Idle.{Idle}
use Rattle.sqlx_pool_lists.specs.declared.steps.Start.{Start}
use Rattle.sqlx_pool_lists.specs.declared.steps.Start.TheVariants as start
use Rattle.sqlx_pool_lists.specs.declared.steps.Verdict.TheVariants as verdict
use Rattle.sqlx_pool_lists.specs.declared.steps.AfterTest.{AfterTest}
use Rattle.sqlx_pool_lists.specs.declared.steps.AfterTest.TheVariants as tested
use Rattle.sqlx_pool_lists.specs.declared.steps.AfterConnect.{AfterConnect}
use Rattle.sqlx_pool_lists.specs.declared.steps.AfterConnect.TheVariants as connected
use Rattle.sqlx_pool_lists.specs.declared.steps.Given.{Given}
use Rattle.sqlx_pool_lists.specs.declared.steps.Given.TheVariants as given
use Rattle.sqlx_pool_lists.specs.declared.steps.CloseState.{CloseState}
use Rattle.sqlx_pool_lists.specs.declared.steps.CloseState.TheVariants as closes
use Rattle.zangipuk_c.specs.declared.reply.Reply.{Reply}

-- a kind with a number
abbrev pub number_reply : ℕ → ℕ → Reply
number_reply kind id = record { kind = kind; id = id; raw = 0; created = 0; when = 0; edge = 0 }

-- a kind that says nothing else
abbrev pub plain_reply : ℕ → Reply
plain_reply kind = number_reply kind 0

-- a kind with a token
abbrev pub token_reply : ℕ → ℕ → Reply
token_reply kind raw = record { kind = kind; id = 0; raw = raw; created = 0; when = 0; edge = 0 }

-- it was done (11), or wasn't (12)
abbrev pub done_reply : Bool → Reply
done_reply true = plain_reply 11
done_reply false = plain_reply 12

-- a connection is lent (10)
abbrev pub lent_reply : Lent ℕ → Reply
lent_reply lent = record { kind = 10; id = lent.id; raw = lent.raw; created = lent.created.0; when = 0; edge = 0 }

-- an idle connection, to be tested (8) or closed (2)
abbrev pub idle_reply : ℕ → Idle ℕ → Reply
idle_reply kind idle = record { kind = kind; id = idle.lent.id; raw = idle.lent.raw; created = idle.lent.created.0; when = idle.since.0; edge = 0 }

-- a ticket backs off (7): until then, or the largest number for later
abbrev pub backoff_reply : ℕ → Reply
backoff_reply until = record { kind = 7; id = 0; raw = 0; created = 0; when = min until (2 ^ 64 - 1); edge = 0 }

-- what a poll comes to at first
abbrev pub start_reply : Start ℕ → Reply
start_reply start.NotHeld = plain_reply 0
start_reply start.Closed = plain_reply 1
start_reply start.TimedOut = plain_reply 3
start_reply start.Exhausted = plain_reply 4
start_reply start.Waiting = plain_reply 6
start_reply (start.Backoff until) = backoff_reply until
start_reply (start.Test idle) = idle_reply 8 idle
start_reply start.Connect = plain_reply 9

-- what follows a test
abbrev pub test_reply : AfterTest ℕ → Reply
test_reply (tested.NotHeld (verdict.Accepted lent)) = token_reply 0 lent.raw
test_reply (tested.NotHeld (verdict.Refused id)) = plain_reply 0
test_reply (tested.Closed (Some raw)) = token_reply 2 raw
test_reply (tested.Closed None) = plain_reply 1
test_reply (tested.Ready lent) = lent_reply lent
test_reply (tested.Test idle) = idle_reply 8 idle
test_reply tested.Connect = plain_reply 9

-- what follows a try of a connect
abbrev pub connect_reply : AfterConnect ℕ → Reply
connect_reply (connected.NotHeld tried) = plain_reply 0
connect_reply (connected.Closed (Some raw)) = token_reply 2 raw
connect_reply (connected.Closed None) = plain_reply 1
connect_reply (connected.Ready lent) = lent_reply lent
connect_reply (connected.Backoff until) = backoff_reply until
connect_reply connected.Ended = plain_reply 11

-- what became of a connection that was given back
abbrev pub give_reply : Given ℕ → Reply
give_reply given.Kept = plain_reply 11
give_reply (given.Closed raw) = token_reply 2 raw
give_reply (given.NotHeld raw) = token_reply 0 raw

-- what was lent, or nothing (12)
abbrev pub lend_reply : Option (Lent ℕ) → Reply
lend_reply (Some lent) = lent_reply lent
lend_reply None = plain_reply 12

-- what is to be closed, or nothing
abbrev pub take_reply : Option (Idle ℕ) → Reply
take_reply (Some idle) = idle_reply 2 idle
take_reply None = plain_reply 12

-- how far a pool is closed
abbrev pub closing_reply : CloseState → Reply
closing_reply closes.NotShut = number_reply 11 0
closing_reply closes.Closing = number_reply 11 1
closing_reply closes.Closed = number_reply 11 2

-- what came back of a connection for the minimum
abbrev pub filled_reply : Option ℕ → Reply
filled_reply (Some raw) = token_reply 2 raw
filled_reply None = plain_reply 11
