-- What each step answers, by the pool that it found.
use Rattle.std.specs.Prelude.{◌≡◌, ℕ, ◌^◌, ◌<◌, ◌==◌, ◌⊎◌, ◌↔◌, Bool, true, false, List, [], ◌∷◌, Option, Some, None, if◌then◌else◌, is_some, length, slice_get, drop, option_map}
use Rattle.sqlx_pool_marks.specs.declared.mark.Mark.{Mark}
use Rattle.sqlx_pool_marks.specs.EventTable.{may_pass}
use Rattle.sqlx_pool_lists.specs.declared.steps.Idle.{Idle}
use Rattle.sqlx_pool_lists.specs.declared.steps.Tried.{Tried}
use Rattle.sqlx_pool_lists.specs.declared.steps.Tried.TheVariants as tried
use Rattle.sqlx_pool_lists.specs.Core.{Core, waiting, free, size, loan_of, ticket_of}
use Rattle.sqlx_pool_lists.specs.CoreTurn.{core_turn}
use Rattle.sqlx_pool_lists.specs.PollSteps.{phase_for, start_answer, verdict_answer, connect_answer, may_cancel, try_lent}
use Rattle.sqlx_pool_lists.specs.MaintenanceSteps.{has_place, reap_answer, handed_back, close_state}
use Rattle.sqlx_pool_core.specs.Logs.{moment_of}
use Rattle.sqlx_pool_core.specs.Answers.{serves_at_once}
use Rattle.sqlx_pool_core.specs.ReturnSteps.{give_answer}
use Rattle.zangipuk_c.specs.declared.held.Kept.{Kept}
use Rattle.zangipuk_c.specs.declared.reply.Reply.{Reply}
use Rattle.zangipuk_c.specs.declared.told.Told.{Told}
use Rattle.zangipuk_c.specs.declared.told.Step.{Step}
use Rattle.zangipuk_c.specs.declared.told.Step.TheVariants as step
use Rattle.zangipuk_c.specs.Told.{now_of, told_lent, told_verdict}
use Rattle.zangipuk_c.specs.Replies.{number_reply, plain_reply, done_reply, lend_reply, take_reply, start_reply, test_reply, connect_reply, give_reply, closing_reply, filled_reply}
use Rattle.zangipuk_c.specs.MarkReplies.{mark_reply}

-- A ticket is asked with the number that comes next. A refusal has a cause: the pool is closed, the numbers are used up, or memory is wanting.
pub record IsAsked (core : Core ℕ) (reply : Reply) : Type 0 where
  pub numbered : reply.kind ≡ 11 → reply ≡ number_reply 11 core.next_ticket
  pub closed : (reply.kind ≡ 1) ↔ (core.shut ≡ true)
  pub exhausted : (reply.kind ≡ 4) ↔ ((core.shut ≡ false) × (2 ^ 63 < core.next_ticket))
  pub causes : (reply.kind ≡ 11) ⊎ ((reply ≡ plain_reply 1) ⊎ ((reply ≡ plain_reply 4) ⊎ (reply ≡ plain_reply 5)))

-- whether the line lets a connection pass
abbrev pub passes : Core ℕ → Bool
passes core = may_pass core.shut (waiting core.tickets) (free core)

-- the moment at which a step happens
abbrev pub moment : Core ℕ → Told → ℕ
moment core told = moment_of core (now_of told)

-- what a test that was passed or not answers
abbrev pub tested : Core ℕ → Told → Bool → Reply
tested core told accepted = test_reply (verdict_answer told.client told.ticket core.shut core (told_verdict told accepted))

-- what a try of a connect answers
abbrev pub connected : Core ℕ → Told → Tried ℕ → Reply
connected core told tried = connect_reply (connect_answer (ticket_of told.client told.ticket core.tickets) core.shut core.next_conn (moment core told) tried)

-- what a return answers, which may rest or not
abbrev pub given : Core ℕ → Told → Bool → Reply
given core told accepted = give_reply (give_answer core.options core.shut (moment core told) accepted (loan_of told.client told.conn core.held) (told_lent told))

-- whether the client owns the connection
abbrev pub owned : Core ℕ → Told → Reply
owned core told = done_reply (is_some (loan_of told.client told.conn core.held))

-- a place for the minimum of which this came; none may be held
abbrev pub filled : Core ℕ → Option ℕ → Reply
filled core raw = if core.places == 0 then plain_reply 0 else filled_reply (handed_back core.shut raw)

-- the first of these
abbrev pub first_of : List (Idle ℕ) → Option (Idle ℕ)
first_of [] = None
first_of (i ∷ rest) = Some i

-- the idle connections that a close leaves to be told
abbrev pub left_by_close : Kept → List (Idle ℕ)
left_by_close old = if old.core.pool.shut then old.left.items else old.core.pool.idle

-- how long a log is, if one is kept
abbrev pub log_reply : Option (List Mark) → Reply
log_reply None = plain_reply 12
log_reply (Some marks) = number_reply 11 (length marks)

-- a mark in numbers, if it was found
abbrev pub found_reply : Option Mark → Reply
found_reply None = plain_reply 12
found_reply (Some mark) = mark_reply mark

-- the mark at a place of a log, if one is kept
abbrev pub noted_reply : ℕ → Option (List Mark) → Reply
noted_reply at None = plain_reply 12
noted_reply at (Some marks) = found_reply (slice_get marks at)

-- what a step answers, but for the edge
abbrev pub Answers : Step → Told → Kept → Reply → Type 0
Answers step.Ask told old reply = IsAsked old.core.pool reply
Answers step.Start told old reply = reply ≡ start_reply (start_answer (core_turn old.core.pool told.client told.ticket (moment old.core.pool told)) old.core.pool.idle)
Answers step.TestAccepted told old reply = reply ≡ tested old.core.pool told true
Answers step.TestRefused told old reply = reply ≡ tested old.core.pool told false
Answers step.Opened told old reply = reply ≡ connected old.core.pool told (tried.Opened told.raw)
Answers step.Rejected told old reply = reply ≡ connected old.core.pool told tried.Rejected
Answers step.Transient told old reply = reply ≡ connected old.core.pool told tried.Transient
Answers step.Fatal told old reply = reply ≡ connected old.core.pool told tried.Fatal
Answers step.Cancel told old reply = reply ≡ done_reply (may_cancel (phase_for told.client told.ticket old.core.pool.tickets))
Answers step.Give told old reply = reply ≡ given old.core.pool told true
Answers step.GiveRefused told old reply = reply ≡ given old.core.pool told false
Answers step.End told old reply = reply ≡ owned old.core.pool told
Answers step.Detach told old reply = reply ≡ owned old.core.pool told
Answers step.Leak told old reply = reply ≡ owned old.core.pool told
Answers step.ServeNew told old reply = reply ≡ lend_reply (try_lent (serves_at_once old.core.pool.shut old.core.pool) old.core.pool.idle)
Answers step.TryAcquire told old reply = reply ≡ lend_reply (try_lent (passes old.core.pool) old.core.pool.idle)
Answers step.Reap told old reply = reply ≡ take_reply (reap_answer (passes old.core.pool) old.core.pool.options (moment old.core.pool told) old.core.pool.idle)
Answers step.MinimumPlace told old reply = reply ≡ done_reply (has_place old.core.pool.options.min_connections old.core.pool)
Answers step.MinimumOpened told old reply = reply ≡ filled old.core.pool (Some told.raw)
Answers step.MinimumFailed told old reply = reply ≡ filled old.core.pool None
Answers step.Close told old reply = reply ≡ take_reply (first_of (left_by_close old))
Answers step.NextLeft told old reply = reply ≡ take_reply (first_of old.left.items)
Answers step.Closing told old reply = reply ≡ closing_reply (close_state old.core.pool.shut (length old.core.pool.held) old.core.pool.leaked (length old.core.pool.tickets))
Answers step.Size told old reply = reply ≡ number_reply 11 (size old.core.pool)
Answers step.NumIdle told old reply = reply ≡ number_reply 11 (length old.core.pool.idle)
Answers step.NumHeld told old reply = reply ≡ number_reply 11 (length old.core.pool.held)
Answers step.NumLeaked told old reply = reply ≡ number_reply 11 old.core.pool.leaked
Answers step.NumTickets told old reply = reply ≡ number_reply 11 (length old.core.pool.tickets)
Answers step.LogLength told old reply = reply ≡ log_reply (option_map (λ log. log.items) old.log)
Answers step.MarkAt told old reply = reply ≡ noted_reply told.ticket (option_map (λ log. log.items) old.log)
Answers step.Unknown told old reply = reply ≡ plain_reply 0

-- the idle connections of a closed pool that are still to be told, behind a step
abbrev pub left_after : Step → Kept → List (Idle ℕ)
left_after step.Close old = drop 1 (left_by_close old)
left_after step.NextLeft old = drop 1 old.left.items
left_after other old = old.left.items

-- it changes nothing
abbrev pub is_question : Step → Bool
is_question step.Closing = true
is_question step.Size = true
is_question step.NumIdle = true
is_question step.NumHeld = true
is_question step.NumLeaked = true
is_question step.NumTickets = true
is_question step.LogLength = true
is_question step.MarkAt = true
is_question step.Unknown = true
is_question other = false
