-- What the calls of a session give, and the session after them.
use Rattle.std.specs.Prelude.{◌≡◌, ◌⊎◌, ℕ, zero, suc, Bool, List, [], Option, Some, None, Ok, Err}
use Rattle.sqlx_text.specs.declared.error.Error.TheVariants as error
use Rattle.sqlx_traits.specs.Calls.{Call, Outcome, begin, commit, rollback, start_rollback, ping, clear_cached_statements, shrink_buffers, flush}
use Rattle.sqlx_any.specs.declared.arguments.AnyArguments.{AnyArguments}
use Rattle.sqlx_savepoints.specs.Texts.{begin_at, commit_at, rollback_at}
use Rattle.mem_store.specs.Acts.{fault_of, refusal_of}
use Rattle.mem_store.specs.Errors.{error_of}
use Rattle.mem_store.specs.declared.act.Act.{Act}
use Rattle.mem_store.specs.declared.act.Act.TheVariants.{Level}
use Rattle.mem_store.specs.declared.refusal.Refusal.{Refusal}
use Rattle.mem_driver.specs.Answers.{Answers, RowsFit, only_error, steps_of}
use Rattle.mem_driver.specs.Asked.{asked}
use Rattle.mem_driver.specs.Session.{Session, acted, depth, fault_counted, forgotten, noted, refused, rolled_back}

-- ---- queries

-- what asking for an act gives, by the refusal that it meets
abbrev pub answer_met : Option Act → Session → Option Refusal → Answers
answer_met act session (Some reason) = only_error (error_of reason)
answer_met (Some act) session None = steps_of act session.work
answer_met None session None = []

-- the session after it
abbrev pub left_met : Option Act → Session → Option Refusal → Session
left_met act session (Some reason) = refused session
left_met (Some act) session None = acted act session
left_met None session None = session

-- memory was wanting
abbrev pub Lacks : Session → Answers → Session → Type 0
Lacks before list after = (list ≡ only_error error.OutOfMemory) × (after ≡ before)

-- the act is done or refused, or memory is wanting
abbrev pub Acts : Option Act → Session → Answers → Session → Type 0
Acts act before list after = ((list ≡ answer_met act before (refusal_of act before.work)) × (after ≡ left_met act before (refusal_of act before.work))) ⊎ Lacks before list after

-- the text is noted and the act done or refused, or memory is wanting; each number in a row has 64 bits
abbrev pub Runs : Session → List ℕ → Bool → Option AnyArguments → Answers → Session → Type 0
Runs before text kept arguments list after = (Acts (asked text arguments) (noted text kept arguments before) list after ⊎ Lacks before list after) × RowsFit list

-- ---- levels and other calls

-- a call that may be refused or find no memory: what it leaves where it is done, where memory is wanting, and where it is refused
abbrev pub Goes : Session → Session → Session → Option Refusal → Outcome → Session → Type 0
Goes done lacking denied None outcome after = ((outcome ≡ Ok tt) × (after ≡ done)) ⊎ ((outcome ≡ Err error.OutOfMemory) × (after ≡ lacking))
Goes done lacking denied (Some reason) outcome after = (outcome ≡ Err (error_of reason)) × (after ≡ denied)

-- a level text that begins a level
abbrev pub Begins : Act → Session → Outcome → Session → Type 0
Begins act before outcome after = Goes (acted act before) before (refused before) (refusal_of (Some act) before.work) outcome after

-- a level text that ends the innermost level, which is rolled back where the text doesn't run
abbrev pub Ends : Act → Session → Outcome → Session → Type 0
Ends act before outcome after = Goes (acted act before) (rolled_back before) (rolled_back (refused before)) (refusal_of (Some act) before.work) outcome after

-- a text that ran in place of a begin has begun a level, or the begin has failed, which is counted
abbrev pub HasBegun : ℕ → Session → Outcome → Session → Type 0
HasBegun zero left outcome after = (outcome ≡ Err error.BeginFailed) × (after ≡ fault_counted left)
HasBegun (suc levels) left outcome after = (outcome ≡ Ok tt) × (after ≡ left)

-- a begin by a text of the caller's own, outside of a level, by the refusal that the text meets
abbrev pub BeginsBy : Option Act → Session → Option Refusal → Outcome → Session → Type 0
BeginsBy act before (Some reason) outcome after = (outcome ≡ Err (error_of reason)) × (after ≡ refused before)
BeginsBy (Some act) before None outcome after = HasBegun (depth (acted act before)) (acted act before) outcome after ⊎ ((outcome ≡ Err error.OutOfMemory) × (after ≡ before))
BeginsBy None before None outcome after = Unit {0}

-- the same at any depth: inside of a level it is refused
abbrev pub BeginsAt : ℕ → Option Act → Session → Outcome → Session → Type 0
BeginsAt zero act before outcome after = BeginsBy act before (refusal_of act before.work) outcome after
BeginsAt (suc levels) act before outcome after = (outcome ≡ Err error.InvalidSavePointStatement) × (after ≡ before)

-- a ping takes no memory: it is refused exactly where an answer that refuses was handed in
abbrev pub Pings : Session → Option Refusal → Outcome → Session → Type 0
Pings before None outcome after = (outcome ≡ Ok tt) × (after ≡ before)
Pings before (Some reason) outcome after = (outcome ≡ Err (error_of reason)) × (after ≡ refused before)

-- what a call besides queries answers, and the session after it
abbrev pub Does : Call → Session → Outcome → Session → Type 0
Does ping before outcome after = Pings before (fault_of before.work.answer) outcome after
Does (begin None) before outcome after = Begins (Level (begin_at (depth before))) before outcome after
Does (begin (Some text)) before outcome after = BeginsAt (depth before) (asked text None) before outcome after
Does commit before outcome after = Ends (Level (commit_at (depth before))) before outcome after
Does rollback before outcome after = Ends (Level (rollback_at (depth before))) before outcome after
Does start_rollback before outcome after = after ≡ rolled_back before
Does clear_cached_statements before outcome after = (outcome ≡ Ok tt) × (after ≡ forgotten before)
Does shrink_buffers before outcome after = after ≡ before
Does flush before outcome after = (outcome ≡ Ok tt) × (after ≡ before)
