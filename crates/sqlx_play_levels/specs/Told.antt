-- How an error of the database is told as a reply, and what a statement with arguments comes to.
use Rattle.std.specs.Prelude.{◌≡◌, ◌⊎◌, ℕ, ℤ, if◌then◌else◌, List, Option, Some, None, Result, Ok, Err, codes}
use Rattle.std.specs.Str.{bytes_eq}
use Rattle.sqlx_text.specs.declared.error.Error.{Error}
use Rattle.sqlx_text.specs.declared.error.Error.TheVariants as error
use Rattle.sqlx_any_values.specs.declared.query_result.AnyQueryResult.{AnyQueryResult}
use Rattle.sqlx_script.specs.declared.reply.Reply.{Reply}
use Rattle.sqlx_script.specs.declared.reply.Reply.TheVariants as reply
use Rattle.mem_store.specs.declared.act.Act.{Act as Doing}
use Rattle.mem_store.specs.declared.act.Act.TheVariants.{Get}
use Rattle.mem_store.specs.declared.refusal.Refusal.{Refusal}
use Rattle.mem_store.specs.Store.{Session}
use Rattle.mem_store.specs.Acts.{refusal_of, after_act, refused, seen_by}
use Rattle.mem_store.specs.Errors.{error_of}

-- the reply to a refusal of the database, by its message
abbrev pub database_reply : List ℕ → Reply
database_reply message = if bytes_eq message (codes "deep") then reply.DatabaseDeep else if bytes_eq message (codes "busy") then reply.DatabaseBusy else reply.DatabaseRefused

-- the reply by which an error is told, none where memory was wanting
abbrev pub told_reply : Error → Option Reply
told_reply error.OutOfMemory = None
told_reply error.RowNotFound = Some reply.RowNotFound
told_reply error.InvalidSavePointStatement = Some reply.InvalidSavePointStatement
told_reply error.BeginFailed = Some reply.BeginFailed
told_reply (error.Database fault) = Some (database_reply fault.message)
told_reply other = Some reply.Io

-- the reply to what was answered
abbrev pub reply_to : {A : Type 0} → (A → Reply) → Result A Error → Option Reply
reply_to reply_of (Ok done) = Some (reply_of done)
reply_to reply_of (Err e) = told_reply e

-- this reply, or want of memory where there is none
abbrev pub Answered : {E : Type 0} → Option Reply → Result Reply E → Type 0
Answered due (Ok reply) = due ≡ Some reply
Answered due (Err none) = due ≡ None

-- ---- statements with arguments

-- the reply to a write
abbrev pub written_reply : AnyQueryResult → Reply
written_reply done = reply.Written done.rows_affected

-- what a read answers
abbrev pub found : Option ℤ → Result ℤ Error
found None = Err error.RowNotFound
found (Some value) = Ok value

-- the answer, by the refusal that the statement meets
abbrev pub by_refusal : {A : Type 0} → Result A Error → Option Refusal → Result A Error
by_refusal answer None = answer
by_refusal answer (Some reason) = Err (error_of reason)

-- the session after the statement, by the refusal that it meets
abbrev pub after_met : Doing → Session → Option Refusal → Session
after_met act session None = after_act act session
after_met act session (Some reason) = refused session

-- the statement is done or refused, or memory was wanting and nothing is done
abbrev pub Comes : {A : Type 0} → Doing → Result A Error → Session → Result A Error → Session → Type 0
Comes act due before answer after =
    ((answer ≡ by_refusal due (refusal_of (Some act) before)) × (after ≡ after_met act before (refusal_of (Some act) before))) ⊎ ((answer ≡ Err error.OutOfMemory) × (after ≡ before))

-- the same of a read; a value that was found and for which memory was wanting then has been counted as read
abbrev pub Finds : ℤ → Session → Result ℤ Error → Session → Type 0
Finds key before answer after =
    Comes (Get key) (found (seen_by key before)) before answer after ⊎ ((answer ≡ Err error.OutOfMemory) × (after ≡ after_met (Get key) before (refusal_of (Some (Get key)) before)))
