-- Which kind of text ran for an event of a script, by its reply, and how often.
use Rattle.std.specs.Prelude.{ℕ, Bool, not, true, false, count_by}
use Rattle.sqlx_script.specs.declared.step.Step.{Step}
use Rattle.sqlx_script.specs.declared.step.Step.TheVariants.{Begin, Custom, Put, Del, Get, Commit, Rollback, GiveUp}
use Rattle.sqlx_script.specs.declared.reply.Reply.{Reply}
use Rattle.sqlx_script.specs.declared.reply.Reply.TheVariants as reply
use Rattle.sqlx_script_rules.specs.Pairs.{Pairs}

-- the reply tells a level
abbrev pub is_level : Reply → Bool
is_level (reply.Level depth text) = true
is_level other = false

-- the client has no such connection, or no level on it
abbrev pub is_not_held : Reply → Bool
is_not_held reply.NotHeld = true
is_not_held other = false

-- the reply to a write that was done
abbrev pub is_written : Reply → Bool
is_written (reply.Written rows) = true
is_written other = false

-- the reply to a read that was done
abbrev pub is_found : Reply → Bool
is_found (reply.Value value) = true
is_found reply.RowNotFound = true
is_found other = false

-- a select ran in place of a text that begins a transaction
abbrev pub is_begin_failed : Reply → Bool
is_begin_failed reply.BeginFailed = true
is_begin_failed other = false

-- a begin or a custom that is told its level
abbrev pub begins_level : Step → Reply → Bool
begins_level (Begin client c answer) r = is_level r
begins_level (Custom client c begins answer) r = is_level r
begins_level other r = false

-- a commit, a rollback or a giveup that found a level, refused or not
abbrev pub ends_level : Step → Reply → Bool
ends_level (Commit client c answer) r = not (is_not_held r)
ends_level (Rollback client c answer) r = not (is_not_held r)
ends_level (GiveUp client c) r = not (is_not_held r)
ends_level other r = false

-- a put or a del that was done
abbrev pub writes_row : Step → Reply → Bool
writes_row (Put client c key answer value) r = is_written r
writes_row (Del client c key answer) r = is_written r
writes_row other r = false

-- a get that found its row or none, or a custom whose text began nothing
abbrev pub reads_row : Step → Reply → Bool
reads_row (Get client c key answer) r = is_found r
reads_row (Custom client c begins answer) r = is_begin_failed r
reads_row other r = false

-- of how many events the step and the reply are of this kind
abbrev pub count_of : (Step → Reply → Bool) → Pairs → ℕ
count_of kind pairs = count_by (λ pair. kind pair.0.step pair.1) pairs
