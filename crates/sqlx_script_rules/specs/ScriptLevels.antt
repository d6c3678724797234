-- The transactions of a script: what its statements are to the brackets of each connection, and the replies to them.
use Rattle.std.specs.Prelude.{ℕ, ◌==◌, pos, Bool, false, Option, Some, None, List, [], ◌∷◌, ◌++◌}
use Rattle.sqlx_savepoints.specs.Texts.{begin_at, commit_at, rollback_at}
use Rattle.sqlx_savepoints.specs.declared.level_text.LevelText.{LevelText}
use Rattle.sqlx_savepoints.specs.declared.level_text.LevelText.TheVariants.{BeginImmediate}
use Rattle.sqlx_pool_marks.specs.declared.mark.Mark.{Mark}
use Rattle.sqlx_pool_marks.specs.declared.mark.Mark.TheVariants as mark
use Rattle.sqlx_pool_marks.specs.Marks.{owner_of}
use Rattle.sqlx_script.specs.declared.pool_line.PoolLine.{PoolLine}
use Rattle.sqlx_script.specs.declared.answers.StatementAnswer.{StatementAnswer}
use Rattle.sqlx_script.specs.declared.answers.StatementAnswer.TheVariants.{Runs, StatementIo, StatementRefused}
use Rattle.sqlx_script.specs.declared.step.Event.{Event}
use Rattle.sqlx_script.specs.declared.step.Step.{Step}
use Rattle.sqlx_script.specs.declared.step.Step.TheVariants.{Begin, Custom, Put, Del, Get, Commit, Rollback, GiveUp}
use Rattle.sqlx_script.specs.declared.reply.Reply.{Reply}
use Rattle.sqlx_script.specs.declared.reply.Reply.TheVariants as reply
use Rattle.sqlx_savepoints.specs.Changes.{leaves, History}
use Rattle.sqlx_savepoints.specs.Brackets.{depth}
use Rattle.sqlx_savepoints.specs.Events.{Act, begin, custom, put, del, get, commit, roll_back, give_up, Met, accepted, broken, refusing, reply_of, change_by}
use Rattle.sqlx_savepoints.specs.Events as bracket
use Rattle.sqlx_script_rules.specs.ScriptMarks.{added}
use Rattle.sqlx_script_rules.specs.Pairs.{Pairs}

-- ---- statements

-- a statement of a script: who makes it, on which connection, what it does, and what it meets
pub record Statement : Type 0 where
  pub client : ℕ
  pub conn : ℕ
  pub act : Act
  pub met : Met

-- what the statement meets, by its letter
abbrev pub met_of : StatementAnswer → Met
met_of Runs = accepted
met_of StatementIo = broken
met_of StatementRefused = refusing

-- the statement of a step, where it is one
abbrev pub statement_of : Step → Option Statement
statement_of (Begin k c a) = Some (record { client = k; conn = c; act = begin c; met = met_of a })
statement_of (Custom k c begins a) = Some (record { client = k; conn = c; act = custom c begins; met = met_of a })
statement_of (Put k c key a value) = Some (record { client = k; conn = c; act = put c (pos key) value; met = met_of a })
statement_of (Del k c key a) = Some (record { client = k; conn = c; act = del c (pos key); met = met_of a })
statement_of (Get k c key a) = Some (record { client = k; conn = c; act = get c (pos key); met = met_of a })
statement_of (Commit k c a) = Some (record { client = k; conn = c; act = commit c; met = met_of a })
statement_of (Rollback k c a) = Some (record { client = k; conn = c; act = roll_back c; met = met_of a })
statement_of (GiveUp k c) = Some (record { client = k; conn = c; act = give_up c; met = accepted })
statement_of other = None

-- ---- replies

-- the text that runs for an act, by the depth before it
abbrev pub text_of : Act → ℕ → LevelText
text_of (begin c) d = begin_at d
text_of (custom c begins) d = BeginImmediate
text_of (commit c) d = commit_at d
text_of (roll_back c) d = rollback_at d
text_of (give_up c) d = rollback_at d
text_of other d = BeginImmediate

-- a reply to a statement as the script writes it, by the depth before it
abbrev pub written_reply : Act → ℕ → bracket.Reply → Reply
written_reply act d (bracket.level now) = reply.Level now (text_of act d)
written_reply act d (bracket.ok rows) = reply.Written rows
written_reply act d (bracket.found value) = reply.Value value
written_reply act d bracket.row_not_found = reply.RowNotFound
written_reply act d bracket.not_held = reply.NotHeld
written_reply act d bracket.invalid_save_point = reply.InvalidSavePointStatement
written_reply act d bracket.begin_failed = reply.BeginFailed
written_reply act d bracket.io = reply.Io
written_reply act d bracket.refused = reply.DatabaseRefused
written_reply act d bracket.deep = reply.DatabaseDeep
written_reply act d bracket.busy = reply.DatabaseBusy

-- what a written reply says to the brackets
abbrev pub read_reply : Reply → bracket.Reply
read_reply (reply.Level now text) = bracket.level now
read_reply (reply.Written rows) = bracket.ok rows
read_reply (reply.Value value) = bracket.found value
read_reply reply.RowNotFound = bracket.row_not_found
read_reply reply.InvalidSavePointStatement = bracket.invalid_save_point
read_reply reply.BeginFailed = bracket.begin_failed
read_reply reply.Io = bracket.io
read_reply reply.DatabaseRefused = bracket.refused
read_reply reply.DatabaseDeep = bracket.deep
read_reply reply.DatabaseBusy = bracket.busy
read_reply other = bracket.not_held

-- whether the client is the owner
abbrev pub owns : ℕ → Option ℕ → Bool
owns k None = false
owns k (Some owner) = k == owner

-- the reply to a statement, behind these marks and this history
abbrev pub statement_reply : List Mark → History → Statement → Reply
statement_reply marks past s = written_reply s.act (depth s.conn past) (reply_of s.act (owns s.client (owner_of s.conn marks)) s.met past)

-- ---- the history of a script

-- a connection that is gone takes its brackets with it
abbrev pub gone_by : List Mark → History → History
gone_by [] past = past
gone_by (mark.Closed c ∷ marks) past = gone_by marks (leaves c ∷ past)
gone_by (mark.Detached c ∷ marks) past = gone_by marks (leaves c ∷ past)
gone_by (mark.Leaked c ∷ marks) past = gone_by marks (leaves c ∷ past)
gone_by (mark.Reaped c ∷ marks) past = gone_by marks (leaves c ∷ past)
gone_by (other ∷ marks) past = gone_by marks past

-- what a statement and its reply change
abbrev pub changed_by : Option Statement → Reply → History → History
changed_by None r past = past
changed_by (Some s) r past = change_by s.act (read_reply r) past

-- the history behind one more event and its reply
abbrev pub history_after : PoolLine → List Mark → History → Event × Reply → History
history_after pool marks past pair = gone_by (added pool marks pair) (changed_by (statement_of pair.0.step) pair.1 past)

-- the history behind these events and replies, of which the marks and the history before are given
unfoldable pub history_from : PoolLine → List Mark → History → Pairs → History
history_from pool marks past [] = past
history_from pool marks past (pair ∷ pairs) = history_from pool (marks ++ added pool marks pair) (history_after pool marks past pair) pairs

-- what happened on the connections of a script, the newest first
abbrev pub history_of : PoolLine → Pairs → History
history_of pool pairs = history_from pool [] [] pairs
