-- The text of each reply, and of the closing report.
use Rattle.std.specs.Prelude.{ℕ, ◌++◌, List, [], ◌∷◌, codes}
use Rattle.std.specs.Fmt.{decimal, signed_decimal}
use Rattle.sqlx_savepoints.specs.Texts.{text_of}
use Rattle.sqlx_script.specs.declared.reply.Reply.{Reply}
use Rattle.sqlx_script.specs.declared.reply.Reply.TheVariants.{Ticket, PoolClosed, PoolTimedOut, NotHeld, Waiting, Backoff, Ready, Io, DatabaseRefused, Cancelled, NothingToLend, Kept, Closed, Detached, Leaked, Reaped, Opened, Closing, StateOpen, StateClosing, StateClosed, Level, DatabaseDeep, DatabaseBusy, InvalidSavePointStatement, BeginFailed, Written, Value, RowNotFound}
use Rattle.sqlx_script.specs.declared.report.Report.{Report}

-- the text of a reply, without its newline
abbrev pub reply_text : Reply → List ℕ
reply_text (Ticket n) = codes "ticket " ++ decimal n
reply_text PoolClosed = codes "PoolClosed"
reply_text PoolTimedOut = codes "PoolTimedOut"
reply_text NotHeld = codes "NotHeld"
reply_text Waiting = codes "waiting"
reply_text (Backoff until) = codes "backoff " ++ decimal until
reply_text (Ready connection) = codes "ready " ++ decimal connection
reply_text Io = codes "Io"
reply_text DatabaseRefused = codes "Database refused"
reply_text Cancelled = codes "cancelled"
reply_text NothingToLend = codes "none"
reply_text Kept = codes "kept"
reply_text (Closed opened) = codes "closed " ++ decimal opened
reply_text (Detached opened) = codes "detached " ++ decimal opened
reply_text (Leaked opened) = codes "leaked " ++ decimal opened
reply_text (Reaped reaped opened) = codes "reaped " ++ decimal reaped ++ codes " opened " ++ decimal opened
reply_text (Opened opened) = codes "opened " ++ decimal opened
reply_text (Closing closed) = codes "closing " ++ decimal closed
reply_text StateOpen = codes "Open"
reply_text StateClosing = codes "Closing"
reply_text StateClosed = codes "Closed"
reply_text (Level depth text) = codes "level " ++ decimal depth ++ codes " " ++ text_of text
reply_text DatabaseDeep = codes "Database deep"
reply_text DatabaseBusy = codes "Database busy"
reply_text InvalidSavePointStatement = codes "InvalidSavePointStatement"
reply_text BeginFailed = codes "BeginFailed"
reply_text (Written rows) = codes "ok " ++ decimal rows
reply_text (Value v) = codes "value " ++ signed_decimal v
reply_text RowNotFound = codes "RowNotFound"

-- the text of the closing report, without its newline
abbrev pub report_text : Report → List ℕ
report_text r = codes "held " ++ decimal r.held ++ codes " idle " ++ decimal r.idle ++ codes " leaked " ++ decimal r.leaked ++ codes " waiting " ++ decimal r.waiting
