-- How far the steps are applied, and the rows that they come to.
use Rattle.std.specs.Prelude.{ℕ, suc, ◌+◌, ◌==◌, ◌||◌, Bool, true, false, nat_le, nat_lt, ℤ, pos, List, [], ◌∷◌, ◌++◌, length, take, drop, flat_map, if◌then◌else◌, Option, Some, None, ◌≡◌, ◌≤◌}
use Rattle.std.specs.FinMap.{empty, get}
use Rattle.sqlx_savepoints.specs.Rows.{Rows, written}
use Rattle.sqlx_lines.specs.Scripts.{Grammar}
use Rattle.sqlx_player.specs.Language.{Language, Rules, Pairs, events_of}
use Rattle.sqlx_steps_rules.specs.declared.event.Event.{Event}
use Rattle.sqlx_steps_rules.specs.declared.event.Event.TheVariants.{Step, Statement, Apply, Get}
use Rattle.sqlx_steps_rules.specs.declared.event.Write.{Write}
use Rattle.sqlx_steps_rules.specs.declared.event.Write.TheVariants.{Put, Del}
use Rattle.sqlx_steps_rules.specs.declared.reply.Reply.{Reply}
use Rattle.sqlx_steps_rules.specs.declared.reply.Reply.TheVariants.{Defined, Applied, Stopped, Value, NoRow}
use Rattle.sqlx_steps_rules.specs.Grammar.{event_at, opening_of}
use Rattle.sqlx_steps_rules.specs.Texts.{text_of, version_text}

-- ---- the steps

-- the steps with a statement more in the last of them
abbrev pub with_statement : Write → List (List Write) → List (List Write)
with_statement write [] = []
with_statement write (step ∷ []) = (step ++ write ∷ []) ∷ []
with_statement write (step ∷ next ∷ steps) = step ∷ with_statement write (next ∷ steps)

-- the steps after one more event
abbrev pub defined_by : List (List Write) → Event → List (List Write)
defined_by steps (Step n) = steps ++ [] ∷ []
defined_by steps (Statement write) = with_statement write steps
defined_by steps (Apply n f) = steps
defined_by steps (Get key) = steps

-- the steps after these events
unfoldable pub steps_after : List (List Write) → List Event → List (List Write)
steps_after steps [] = steps
steps_after steps (event ∷ events) = steps_after (defined_by steps event) events

-- the steps that these events define, each the list of its statements
abbrev pub steps_of : List Event → List (List Write)
steps_of events = steps_after [] events

-- whether an event ends the definitions
abbrev pub ends_definitions : Event → Bool
ends_definitions (Apply n f) = true
ends_definitions (Get key) = true
ends_definitions other = false

-- whether the definitions have ended
unfoldable pub have_ended : List Event → Bool
have_ended [] = false
have_ended (event ∷ events) = ends_definitions event || have_ended events

-- ---- rows

-- the rows after a statement
abbrev pub changed : Write → Rows → Rows
changed (Put key value) rows = written key (Some value) rows
changed (Del key) rows = written key None rows

-- the rows after these statements, the first of the list first
unfoldable pub all_changed : List Write → Rows → Rows
all_changed [] rows = rows
all_changed (write ∷ writes) rows = all_changed writes (changed write rows)

-- the empty map changed by the statements of so many steps in order
abbrev pub rows_of : List (List Write) → ℕ → Rows
rows_of steps version = all_changed (flat_map (λ step. step) (take version steps)) empty

-- ---- an apply

-- how many texts a step runs: the begin, its statements, the write of the version, the commit
abbrev pub cost : List Write → ℕ
cost step = 3 + length step

-- whether as many texts as this run, where text number f is refused: none for 0
abbrev pub all_run : ℕ → ℕ → Bool
all_run f texts = (f == 0) || nat_lt texts f

-- how many of these steps are applied, behind so many texts: as many as have all of their texts run
unfoldable pub applied_of : ℕ → ℕ → List (List Write) → ℕ
applied_of f texts [] = 0
applied_of f texts (step ∷ steps) = if all_run f (texts + cost step) then suc (applied_of f (texts + cost step) steps) else 0

-- the version after `apply n f` behind version v: one more for each step from v + 1 to n that is applied
abbrev pub version_reached : List (List Write) → ℕ → ℕ → ℕ → ℕ
version_reached steps v n f = v + applied_of f 0 (drop v (take n steps))

-- how many texts these steps run
abbrev pub costs : List (List Write) → ℕ
costs [] = 0
costs (step ∷ steps) = cost step + costs steps

-- Version V can be reached: all texts of steps v + 1 to V run.
abbrev pub CanReach : List (List Write) → ℕ → ℕ → ℕ → Type 0
CanReach steps v f V = all_run f (costs (drop v (take V steps))) ≡ true

-- Version V is the greatest from v to n that can be reached.
pub record IsGreatest (steps : List (List Write)) (v n f V : ℕ) : Type 0 where
  pub above : v ≤ V
  pub below : V ≤ n
  pub reached : CanReach steps v f V
  pub greatest : (W : ℕ) → v ≤ W → W ≤ n → CanReach steps v f W → W ≤ V

-- the reply of an apply that came to this version
abbrev pub apply_reply : ℕ → ℕ → Reply
apply_reply n reached = if nat_le n reached then Applied reached else Stopped reached

-- ---- the answers

-- the version after a reply
abbrev pub version_by : ℕ → Reply → ℕ
version_by v (Applied reached) = reached
version_by v (Stopped reached) = reached
version_by v other = v

-- the version after these replies, behind version v
unfoldable pub version_after : ℕ → Pairs Event Reply → ℕ
version_after v [] = v
version_after v (pair ∷ pairs) = version_after (version_by v pair.1) pairs

-- the version after these events and replies: that of the last apply
abbrev pub version_of : Pairs Event Reply → ℕ
version_of pairs = version_after 0 pairs

-- the reply to a read
abbrev pub found_reply : Option ℤ → Reply
found_reply (Some value) = Value value
found_reply None = NoRow

-- the reply to an event, where these are the steps and this is the version
abbrev pub answer_at : List (List Write) → ℕ → Event → Reply
answer_at steps v (Step n) = Defined
answer_at steps v (Statement write) = Defined
answer_at steps v (Apply n f) = apply_reply n (version_reached steps v n f)
answer_at steps v (Get key) = found_reply (get (rows_of steps v) (pos key))

-- what each line of a script of steps says
abbrev pub steps_grammar : Grammar (Unit {0}) Event
steps_grammar = record {
  first_of = opening_of;
  event_of = λ _ done line. event_at (length (steps_of done)) (have_ended done) line;
}

-- the reply to each event, and what is written
abbrev pub steps_rules : Rules (Unit {0}) Event Reply
steps_rules = record {
  answer = λ _ pairs event. answer_at (steps_of (events_of pairs)) (version_of pairs) event;
  text_of = text_of;
  closing = λ _ pairs. version_text (version_of pairs);
}

-- the language of step scripts and its rules
abbrev pub steps_language : Language (Unit {0}) Event Reply
steps_language = record { grammar = steps_grammar; rules = steps_rules }
