-- What an act of a client comes to, by the statement that the database runs for it.
use Rattle.std.specs.Prelude.{◌≡◌, ◌⊎◌, ℕ, ℤ, suc, pred, ◌==◌, ◌&&◌, Bool, true, false, is_some, if◌then◌else◌, Option, Some, None, Result, Ok, Err}
use Rattle.sqlx_savepoints.specs.Texts.{begin_at, commit_at, rollback_at}
use Rattle.sqlx_savepoints.specs.declared.level_text.LevelText.TheVariants.{BeginImmediate}
use Rattle.mem_store.specs.declared.answer.Answer.TheVariants as answer
use Rattle.mem_store.specs.declared.act.Act.{Act as Doing}
use Rattle.mem_store.specs.declared.act.Act.TheVariants as doing
use Rattle.mem_store.specs.declared.refusal.Refusal.{Refusal}
use Rattle.mem_store.specs.declared.refusal.Refusal.TheVariants.{Fault, Refused, Unread, Deep, Busy}
use Rattle.mem_store.specs.Store.{Session}
use Rattle.mem_store.specs.Acts.{refusal_of, after_act, seen_by, after_start_rollback}
use Rattle.sqlx_script.specs.declared.reply.Reply.{Reply}
use Rattle.sqlx_script.specs.declared.reply.Reply.TheVariants as reply
use Rattle.sqlx_play_acts.specs.declared.act.Act.{Act}
use Rattle.sqlx_play_acts.specs.declared.act.Act.TheVariants.{Begin, Custom, Put, Delete, Get, Commit, Rollback, GiveUp}

-- whether the act ends a level
abbrev pub needs_level : Act → Bool
needs_level Commit = true
needs_level Rollback = true
needs_level GiveUp = true
needs_level _ = false

-- the statement for the act at this depth
abbrev pub statement_at : Act → ℕ → Doing
statement_at Begin d = doing.Level (begin_at d)
statement_at (Custom true) d = doing.Level BeginImmediate
statement_at (Custom false) d = doing.SelectOne
statement_at (Put key value) d = doing.Put key value
statement_at (Delete key) d = doing.Delete key
statement_at (Get key) d = doing.Get key
statement_at Commit d = doing.Level (commit_at d)
statement_at Rollback d = doing.Level (rollback_at d)
statement_at GiveUp d = doing.Level (rollback_at d)

-- the reply to a refused statement
abbrev pub refused_reply : Refusal → Reply
refused_reply Fault = reply.Io
refused_reply Refused = reply.DatabaseRefused
refused_reply Unread = reply.DatabaseRefused
refused_reply Deep = reply.DatabaseDeep
refused_reply Busy = reply.DatabaseBusy

-- the reply to a read
abbrev pub found_reply : Option ℤ → Reply
found_reply None = reply.RowNotFound
found_reply (Some value) = reply.Value value

-- the reply where the statement ran, by the session before it
abbrev pub ran_reply : Act → Session → Reply
ran_reply Begin session = reply.Level (suc session.link.depth) (begin_at session.link.depth)
ran_reply (Custom true) session = reply.Level 1 BeginImmediate
ran_reply (Custom false) session = reply.BeginFailed
ran_reply (Put key value) session = reply.Written 1
ran_reply (Delete key) session = reply.Written (if is_some (seen_by key session) then 1 else 0)
ran_reply (Get key) session = found_reply (seen_by key session)
ran_reply Commit session = reply.Level (pred session.link.depth) (commit_at session.link.depth)
ran_reply Rollback session = reply.Level (pred session.link.depth) (rollback_at session.link.depth)
ran_reply GiveUp session = reply.Level (pred session.link.depth) (rollback_at session.link.depth)

-- the session after a refusal: a level that couldn't be ended is rolled back
abbrev pub left_refused : Act → Session → Session
left_refused Commit session = after_start_rollback (record session { answer = answer.Accept })
left_refused Rollback session = after_start_rollback (record session { answer = answer.Accept })
left_refused other session = record session { answer = answer.Accept }

-- the reply, by the refusal that the statement meets
abbrev pub reply_met : Act → Session → Option Refusal → Reply
reply_met act session None = ran_reply act session
reply_met act session (Some reason) = refused_reply reason

-- the session after it
abbrev pub left_met : Act → Session → Option Refusal → Session
left_met act session None = after_act (statement_at act session.link.depth) session
left_met act session (Some reason) = left_refused act session

-- no statement runs for a level that is given up, or for a transaction by a text of the client's own inside another one
abbrev pub reply_within : Act → Session → Reply
reply_within GiveUp session = reply.Level (pred session.link.depth) (rollback_at session.link.depth)
reply_within (Custom starts) session = if session.link.depth == 0 then reply_met (Custom starts) session (refusal_of (Some (statement_at (Custom starts) session.link.depth)) session) else reply.InvalidSavePointStatement
reply_within act session = reply_met act session (refusal_of (Some (statement_at act session.link.depth)) session)

-- the session after it
abbrev pub left_within : Act → Session → Session
left_within GiveUp session = after_start_rollback session
left_within (Custom starts) session = if session.link.depth == 0 then left_met (Custom starts) session (refusal_of (Some (statement_at (Custom starts) session.link.depth)) session) else session
left_within act session = left_met act session (refusal_of (Some (statement_at act session.link.depth)) session)

-- the reply to an act on a session
abbrev pub reply_on : Act → Session → Reply
reply_on act session = if needs_level act && (session.link.depth == 0) then reply.NotHeld else reply_within act session

-- the session after it
abbrev pub left_by : Act → Session → Session
left_by act session = if needs_level act && (session.link.depth == 0) then session else left_within act session

-- what is left where memory was wanting: nothing was done, but a read may be counted, and a level that couldn't be ended is rolled back
abbrev pub LeavesWanting : Act → Session → Session → Type 0
LeavesWanting Commit before after = after ≡ after_start_rollback before
LeavesWanting Rollback before after = after ≡ after_start_rollback before
LeavesWanting (Get key) before after = (after ≡ before) ⊎ (after ≡ left_by (Get key) before)
LeavesWanting other before after = after ≡ before

-- this reply and this session, or what is left where memory was wanting
abbrev pub GivesThis : {E : Type 0} → Reply → Session → (Session → Type 0) → Result Reply E → Session → Type 0
GivesThis due left wanting (Ok reply) after = (reply ≡ due) × (after ≡ left)
GivesThis due left wanting (Err none) after = wanting after

-- the same of an act whose statement meets this refusal, or none
abbrev pub GivesMet : {E : Type 0} → Act → Option Refusal → Session → Result Reply E → Session → Type 0
GivesMet act met before result after = GivesThis (reply_met act before met) (left_met act before met) (LeavesWanting act before) result after

-- the same of an act whose statement is run, or refused by state and what was handed in
abbrev pub GivesStatement : {E : Type 0} → Act → Session → Result Reply E → Session → Type 0
GivesStatement act before result after = GivesMet act (refusal_of (Some (statement_at act before.link.depth)) before) before result after

-- the reply to an act and the session after it, or what is left where memory was wanting
abbrev pub Gives : {E : Type 0} → Act → Session → Result Reply E → Session → Type 0
Gives act before result after = GivesThis (reply_on act before) (left_by act before) (LeavesWanting act before) result after
