-- What a statement does: which refusal it meets, and the session and the answer after it.
use Rattle.std.specs.Prelude.{◌≡◌, ℕ, ◌+◌, ◌-◌, ◌^◌, min, ℤ, nat_lt, is_some, if◌then◌else◌, List, [], ◌∷◌, Option, Some, None}
use Rattle.sqlx_savepoints.specs.Rows.{Rows, laid, sees}
use Rattle.sqlx_savepoints.specs.NamedSavepoints.{Named, after, ran, wrote}
use Rattle.sqlx_savepoints.specs.Texts.{rollback_at}
use Rattle.sqlx_savepoints.specs.declared.level_text.LevelText.{LevelText}
use Rattle.sqlx_savepoints.specs.declared.level_text.LevelText.TheVariants.{Begin, BeginImmediate, Savepoint}
use Rattle.mem_store.specs.declared.answer.Answer.{Answer}
use Rattle.mem_store.specs.declared.answer.Answer.TheVariants.{Accept, Io, Refuse}
use Rattle.mem_store.specs.declared.refusal.Refusal.{Refusal}
use Rattle.mem_store.specs.declared.refusal.Refusal.TheVariants.{Fault, Refused, Unread, Deep, Busy}
use Rattle.mem_store.specs.declared.statement.Statement.{Statement}
use Rattle.mem_store.specs.declared.statement.Statement.TheVariants.{Put as PutText, Delete as DeleteText, Get as GetText, SelectAll as SelectAllText, SelectOne as SelectOneText, Level as LevelOf}
use Rattle.mem_store.specs.declared.act.Act.{Act}
use Rattle.mem_store.specs.declared.act.Act.TheVariants.{Put, Delete, Get, SelectAll, SelectOne, Level}
use Rattle.mem_store.specs.declared.runs.Runs.{Runs}
use Rattle.mem_store.specs.Store.{Store, Link, Session, at_work, others_in_level, store_moved, state_of, moved}
use Rattle.mem_store.specs.Undo.{Undo, noted_at, undo_after, undo_rolled_back}

-- a statement with its arguments; none where the text is no statement's or the arguments don't fit
abbrev pub act_of : Option Statement → List ℤ → Option Act
act_of (Some PutText) (key ∷ value ∷ []) = Some (Put key value)
act_of (Some DeleteText) (key ∷ []) = Some (Delete key)
act_of (Some GetText) (key ∷ []) = Some (Get key)
act_of (Some SelectAllText) [] = Some SelectAll
act_of (Some SelectOneText) [] = Some SelectOne
act_of (Some (LevelOf level)) [] = Some (Level level)
act_of _ _ = None

-- the first of two refusals
abbrev pub first_of : Option Refusal → Option Refusal → Option Refusal
first_of (Some refusal) other = Some refusal
first_of None other = other

-- the fault that was handed in
abbrev pub fault_of : Answer → Option Refusal
fault_of Accept = None
fault_of Io = Some Fault
fault_of Refuse = Some Refused

-- what a level text is refused as where the state doesn't allow it
abbrev pub unallowed : LevelText → ℕ → Refusal
unallowed (Savepoint name) depth = if nat_lt depth 100 then Unread else Deep
unallowed _ depth = Unread

-- the refusal of a level text
abbrev pub level_refusal : LevelText → Named → Option Refusal
level_refusal level state = if is_some (after level state) then None else Some (unallowed level state.depth)

-- the refusal of a write
abbrev pub write_refusal : Session → Option Refusal
write_refusal session = if others_in_level session.link.depth session.store.open_links then Some Busy else None

-- the refusal by text, state and other connections
abbrev pub refusal_here : Option Act → Session → Option Refusal
refusal_here None session = Some Unread
refusal_here (Some (Put key value)) session = write_refusal session
refusal_here (Some (Delete key)) session = write_refusal session
refusal_here (Some (Get key)) session = None
refusal_here (Some SelectAll) session = None
refusal_here (Some SelectOne) session = None
refusal_here (Some (Level level)) session = level_refusal level (state_of session)

-- the refusal that a statement meets: the fault handed in comes first
abbrev pub refusal_of : Option Act → Session → Option Refusal
refusal_of act session = first_of (fault_of session.answer) (refusal_here act session)

-- an act that isn't refused by state and other connections
abbrev pub IsFree : Act → Store → Link → Type 0
IsFree act store link = refusal_here (Some act) (at_work store link Accept) ≡ None

-- one more, and no more at the greatest count
abbrev pub counted : ℕ → ℕ
counted count = min (count + 1) (2 ^ 64 - 1)

-- the counts once this text of a level ran
abbrev pub level_counted : LevelText → Runs → Runs
level_counted Begin runs = record runs { begun = counted runs.begun }
level_counted BeginImmediate runs = record runs { begun = counted runs.begun }
level_counted (Savepoint name) runs = record runs { begun = counted runs.begun }
level_counted _ runs = record runs { ended = counted runs.ended }

-- the store after a write by a connection that it brought to this state
abbrev pub store_written : Named → Store → Store
store_written state store = record store { rows = state.rows; runs = record store.runs { writes = counted store.runs.writes } }

-- the session after a write of the key
abbrev pub written_to : ℤ → Option ℤ → Session → Session
written_to key value session = let state = wrote key value (state_of session) in record session { store = store_written state session.store; link = moved state (noted_at session.link.depth session.link.undo) session.link }

-- the session after its connection came to this state by levels, and to what it can undo there
abbrev pub moved_to : Named → Undo → Runs → Session → Session
moved_to state undo runs session = record session { store = store_moved state session.link.depth runs session.store; link = moved state undo session.link }

-- the store after a read
abbrev pub store_read : Store → Store
store_read store = record store { runs = record store.runs { reads = counted store.runs.reads } }

-- the runs after a level was ended
abbrev pub ended_counted : Runs → Runs
ended_counted runs = record runs { ended = counted runs.ended }

-- the session after a refusal, which spends what was handed in
abbrev pub refused : Session → Session
refused session = record session { answer = Accept }

-- the session after an act that isn't refused
abbrev pub after_act : Act → Session → Session
after_act (Put key value) session = written_to key (Some value) session
after_act (Delete key) session = written_to key None session
after_act (Get key) session = record session { store = store_read session.store }
after_act SelectAll session = record session { store = store_read session.store }
after_act SelectOne session = record session { store = store_read session.store }
after_act (Level level) session = moved_to (ran level (state_of session)) (undo_after level session.link.undo) (level_counted level session.store.runs) session

-- the value that the session's connection sees at the key
abbrev pub seen_by : ℤ → Session → Option ℤ
seen_by key session = sees session.link.own session.store.rows key

-- the rows that the session's connection sees
abbrev pub rows_seen : Session → Rows
rows_seen session = laid session.link.own session.store.rows

-- the state after the rollback text at its depth, or, where that text's name isn't on the list, with the depth alone lowered by one
abbrev pub rolled_back : Named → Named
rolled_back state = if is_some (after (rollback_at state.depth) state) then ran (rollback_at state.depth) state else record state { depth = state.depth - 1 }

-- the session after its innermost level was rolled back without a text
abbrev pub after_start_rollback : Session → Session
after_start_rollback session = moved_to (rolled_back (state_of session)) (undo_rolled_back (state_of session) session.link.undo) (ended_counted session.store.runs) session
