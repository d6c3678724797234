-- What the texts of a step do.
use Rattle.std.specs.Prelude.{◌≡◌, ◌≢◌, ℕ, zero, suc, ◌+◌, ◌-◌, ◌<◌, ◌≤◌, nat_lt, nat_le, ℤ, negsuc, Bool, true, false, ◌&&◌, List, [], ◌∷◌, ◌++◌, length, Option, Some}
use Rattle.std.specs.List.{slice_get}
use Rattle.sqlx_savepoints.specs.Rows.{Rows, written}
use Rattle.sqlx_script.specs.declared.reply.Reply.{Reply}
use Rattle.sqlx_script.specs.declared.reply.Reply.TheVariants.{Io}
use Rattle.mem_store.specs.declared.answer.Answer.{Answer}
use Rattle.mem_store.specs.declared.answer.Answer.TheVariants as answer
use Rattle.mem_store.specs.Store.{Store, Link, Session}
use Rattle.sqlx_play_acts.specs.ClientActs.{reply_on, left_by, LeavesWanting}
use Rattle.sqlx_play_acts.specs.declared.act.Act.{Act}
use Rattle.sqlx_play_acts.specs.declared.act.Act.TheVariants as act
use Rattle.sqlx_steps_rules.specs.declared.event.Write.{Write}
use Rattle.sqlx_steps_rules.specs.declared.event.Write.TheVariants.{Put, Del}
use Rattle.sqlx_steps_rules.specs.Rules.{all_changed, cost}
use Rattle.sqlx_steps.specs.declared.texts.Ran.{Ran}
use Rattle.sqlx_steps.specs.declared.texts.Ran.TheVariants.{All, Refused, Wanting}
use Rattle.sqlx_steps.specs.AtWork.{IsAtRest, IsWithin}

-- what meets the next text, where text number `left` is refused: none for 0
abbrev pub answer_at : ℕ → Answer
answer_at (suc zero) = answer.Io
answer_at other = answer.Accept

-- whether a reply says that the text was refused with Io
abbrev pub is_io : Reply → Bool
is_io Io = true
is_io other = false

-- the act of a statement
abbrev pub act_by : Write → Act
act_by (Put key value) = act.Put key value
act_by (Del key) = act.Delete key

-- what came of an act's text
abbrev pub TextGives : Act → Ran → Session → Session → Type 0
TextGives act All before after = (is_io (reply_on act before) ≡ false) × (after ≡ left_by act before)
TextGives act Refused before after = (is_io (reply_on act before) ≡ true) × (after ≡ left_by act before)
TextGives act Wanting before after = LeavesWanting act before after

-- what came of a text: it ran, or was refused since it was its turn, or memory was wanting
abbrev pub Text : (Store → Link → Type 0) → (Store → Link → Type 0) → ℕ → Ran → Store → Link → Type 0
Text Done Kept left All store link = Done store link × (left ≢ 1)
Text Done Kept left Refused store link = Kept store link × (left ≡ 1)
Text Done Kept left Wanting store link = Kept store link

-- what came of so many texts
abbrev pub Texts : (Store → Link → Type 0) → (Store → Link → Type 0) → ℕ → ℕ → ℕ → Ran → Store → Link → Type 0
Texts Done Kept many left left' All store link = Done store link × (0 < left → many < left) × (left' ≡ left - many)
Texts Done Kept many left left' Refused store link = Kept store link × (0 < left) × (left ≤ many)
Texts Done Kept many left left' Wanting store link = Kept store link

-- whether a text of the level of a step is refused, where text number `left` of it is: none for 0
abbrev pub stops_within : List Write → ℕ → Bool
stops_within step left = nat_lt 0 left && nat_le left (length step + 2)

-- the write behind so many texts of the level of a step: a statement, or the write of the version behind them; none where the commit comes
abbrev pub write_behind : List Write → ℤ → ℕ → Option Write
write_behind step version texts = slice_get (step ++ Put (negsuc 0) version ∷ []) texts

-- the rows after a step and the write of the version
abbrev pub stepped : List Write → ℤ → Rows → Rows
stepped step version rows = written (negsuc 0) (Some version) (all_changed step rows)

-- what came of so many writes in the level of connection n: it sees these rows, or others where not all ran
abbrev pub WritesRan : ℕ → Rows → Rows → ℕ → ℕ → ℕ → Ran → Store → Link → Type 0
WritesRan n before rows many left left' ran store link = Texts (λ s l. IsWithin s l n before rows) (λ s l. (seen : Rows) × IsWithin s l n before seen) many left left' ran store link

-- what came of a step of connection n behind these rows
abbrev pub StepRan : ℕ → Rows → List Write → ℤ → ℕ → ℕ → Ran → Store → Link → Type 0
StepRan n rows step version left left' ran store link =
    Texts (λ s l. IsAtRest s l n (stepped step version rows)) (λ s l. IsAtRest s l n rows) (cost step) left left' ran store link
