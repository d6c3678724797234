-- A query of the text that writes leaves the levels of its session.
use Rattle.std.specs.Prelude.{⊤}
use Rattle.std.proofs.Common.{◌≡◌, ◌⊎◌, inl, inr, ℕ, ℤ, zero, suc, Bool, true, false, List, [], ◌∷◌, Option, Some, None, Result, Ok, Err, refl, ◌∙◌}
use Rattle.sqlx_savepoints.specs.Rows.{Rows, Writes}
use Rattle.sqlx_savepoints.specs.NamedSavepoints.{Entry, wrote}
use Rattle.sqlx_text.specs.declared.fault.Fault.{Fault}
use Rattle.sqlx_traits.specs.Handed.{Handed}
use Rattle.sqlx_traits.specs.StepList.{Ran}
use Rattle.sqlx_any.specs.declared.arguments.AnyArguments.{AnyArguments}
use Rattle.sqlx_any_values.specs.declared.value.AnyValueKind.{AnyValueKind}
use Rattle.sqlx_any.specs.Runs.{RunsOver, RunsArguments}
use Rattle.mem_store.specs.declared.act.Act.{Act}
use Rattle.mem_store.specs.declared.act.Act.TheVariants.{Put, Delete, Get, SelectAll, SelectOne, Level}
use Rattle.mem_store.specs.declared.refusal.Refusal.{Refusal}
use Rattle.mem_store.specs.declared.statement.Statement.TheVariants.{Put as PutText}
use Rattle.mem_store.specs.Statements.{statement_text}
use Rattle.mem_driver.specs.Answers.{Answers}
use Rattle.mem_driver.specs.Asked.{act_with, asked, put_of, values_of, whole_of}
use Rattle.mem_driver.specs.Backend.{Acts, Runs, left_met}
use Rattle.mem_driver.specs.Session.{Session, depth, is_noted, noted, noted_if}

-- a write, or nothing that the database does
abbrev IsWrite : Option Act → Type 0
IsWrite None = ⊤
IsWrite (Some (Put key value)) = ⊤
IsWrite (Some act) = ⊥

of_numbers : (key value : Option ℤ) → IsWrite (put_of key value)
of_numbers None None = tt
of_numbers None (Some value) = tt
of_numbers (Some key) None = tt
of_numbers (Some key) (Some value) = tt

of_values : (values : List AnyValueKind) → IsWrite (act_with (Some PutText) values)
of_values [] = tt
of_values (key ∷ []) = tt
of_values (key ∷ value ∷ []) = of_numbers (whole_of key) (whole_of value)
of_values (key ∷ value ∷ x ∷ rest) = tt

writes : (arguments : Option AnyArguments) → IsWrite (asked (statement_text PutText) arguments)
writes arguments = of_values (values_of arguments)

wrote_leaves : (key : ℤ) (value : Option ℤ) (rows : Rows) (own : Writes) (entries : List Entry) (levels : ℕ)
    → (wrote key value (record { rows = rows; own = own; entries = entries; depth = levels })).depth ≡ levels
wrote_leaves key value rows own entries zero = refl
wrote_leaves key value rows own entries (suc d) = refl

left_leaves : (act : Option Act) (session : Session) (met : Option Refusal) → IsWrite act → depth (left_met act session met) ≡ depth session
left_leaves act session (Some reason) write = refl
left_leaves None session None write = refl
left_leaves (Some (Put key value)) session None write = wrote_leaves key (Some value) session.work.store.rows session.work.link.own session.work.link.entries session.work.link.depth
left_leaves (Some (Delete key)) session None write = elim write [ ]
left_leaves (Some (Get key)) session None write = elim write [ ]
left_leaves (Some SelectAll) session None write = elim write [ ]
left_leaves (Some SelectOne) session None write = elim write [ ]
left_leaves (Some (Level level)) session None write = elim write [ ]

acts_leave : (act : Option Act) (before : Session) (list : Answers) (after : Session) → IsWrite act → Acts act before list after → depth after ≡ depth before
acts_leave act before list after write (inl (given, left)) = rw left (left_leaves act before _ write)
acts_leave act before list after write (inr (given, same)) = rw same refl

note_leaves : (b : Bool) (text : List ℕ) (session : Session) → depth (noted_if b text session) ≡ depth session
note_leaves true text session = refl
note_leaves false text session = refl

runs_leave : (before : Session) (text : List ℕ) (kept : Bool) (arguments : Option AnyArguments) (list : Answers) (after : Session)
    → IsWrite (asked text arguments) → Runs before text kept arguments list after → depth after ≡ depth before
runs_leave before text kept arguments list after write (inl acts, fits) =
    acts_leave (asked text arguments) (noted text kept arguments before) list after write acts ∙ note_leaves (is_noted text kept arguments) text before
runs_leave before text kept arguments list after write (inr (given, same), fits) = rw same refl

arguments_leave : (before : Session) (text : List ℕ) (kept : Bool) (arguments : Result (Option AnyArguments) Fault) (list : Answers) (after : Session)
    → ((given : Option AnyArguments) → IsWrite (asked text given)) → RunsArguments Runs before text kept arguments list after → depth after ≡ depth before
arguments_leave before text kept (Ok given) list after write ran = runs_leave before text kept given list after (write given) ran
arguments_leave before text kept (Err fault) list after write (refused, same) = rw same refl

-- the levels behind a query of the text that writes
write_leaves : (before : Session) (query : Handed AnyArguments) (list : Answers) (after : Session)
    → query.text ≡ statement_text PutText → RunsOver Runs before query list after → depth after ≡ depth before
write_leaves before query list after is (inl ran) = arguments_leave before query.text query.persistent query.arguments list after (rw is writes) ran
write_leaves before query list after is (inr (refused, same)) = rw same refl

-- the levels of a connection behind a run of the text that writes, if it ran
pub puts_leave : {C : Type 0} (backend : C → Session) (before after : C) {text : List ℕ} → text ≡ statement_text PutText
    → (after ≡ before) ⊎ ((arguments : AnyArguments) × Ran (λ b query list a. RunsOver Runs (backend b) query list (backend a)) before
    (record { text = text; arguments = Ok (Some arguments); persistent = true }) after (λ _. Unit {0}))
    → depth (backend after) ≡ depth (backend before)
puts_leave backend before after is (inl same) = rw same refl
puts_leave backend before after {text = text} is (inr (arguments, ran)) =
    write_leaves (backend before) (record { text = text; arguments = Ok (Some arguments); persistent = true }) ran.0 (backend after) is ran.1
