-- How far a close has come: the core's word and the reply.
use Rattle.std.proofs.Common.{◌≡◌, ℕ, ◌+◌, ◌==◌, Bool, true, false, not, cond, List, [], ◌∷◌, ◌++◌, length, refl, ap, ◌∙◌}
use Rattle.std.specs.List.{list_any}
use Rattle.sqlx_text.specs.declared.Moment.{Moment}
use Rattle.sqlx_pool_marks.specs.declared.mark.Mark.{Mark}
use Rattle.sqlx_pool_lists.specs.declared.steps.CloseState.{CloseState}
use Rattle.sqlx_pool_lists.specs.declared.steps.CloseState.TheVariants as state
use Rattle.sqlx_pool_marks.specs.Marks.{is_shut, loans_of, leaked_of, tickets_of}
use Rattle.sqlx_pool_lists.specs.MaintenanceSteps.{close_state_of}
use Rattle.sqlx_script.specs.declared.step.Step.TheVariants.{CloseState as AskState}
use Rattle.sqlx_script.specs.declared.reply.Reply.{Reply}
use Rattle.sqlx_script.specs.declared.reply.Reply.TheVariants as reply
use Rattle.sqlx_play.specs.stage.Scene.{Scene}
use Rattle.sqlx_script_rules.specs.Answer.{close_state}
use Rattle.sqlx_play.specs.stage.StageStands.{StageStands}
use Rattle.sqlx_play.proofs.events.Unmoved.{stage-unmoved}
use Rattle.sqlx_script_rules.proofs.Pairs.{tries_of-push}
use Rattle.sqlx_script_rules.specs.Pairs.{Pairs}

-- the word for a state of the core
abbrev pub word_of : CloseState → Reply
word_of state.NotShut = reply.StateOpen
word_of state.Closing = reply.StateClosing
word_of state.Closed = reply.StateClosed

told_by : (shut : Bool) (a b c : ℕ)
    → word_of (cond shut (cond (a + b + c == 0) state.Closed state.Closing) state.NotShut)
    ≡ cond (not shut) reply.StateOpen (cond (a + b + c == 0) reply.StateClosed reply.StateClosing)
told_by false a b c = refl
told_by true a b c =
    elim (a + b + c == 0) as (λ (e : Bool). word_of (cond e state.Closed state.Closing) ≡ cond e reply.StateClosed reply.StateClosing) [ true ↦ refl | false ↦ refl ]

state_cond : (shut : Bool) (a b c : ℕ) → word_of (Rattle.sqlx_pool_lists.specs.MaintenanceSteps.close_state shut a b c) ≡ word_of (cond shut (cond (a + b + c == 0) state.Closed state.Closing) state.NotShut)
state_cond true a b c = refl
state_cond false a b c = refl

-- the core's state, as the reply tells it
pub state-told : (marks : List Mark) (s : CloseState) → s ≡ close_state_of marks → word_of s ≡ close_state marks
state-told marks s is =
    ap word_of is ∙ state_cond (list_any is_shut marks) (length (loans_of marks)) (leaked_of marks) (length (tickets_of marks))
    ∙ told_by (list_any is_shut marks) (length (loans_of marks)) (leaked_of marks) (length (tickets_of marks))

-- the stage after that question
pub asked-state : (stage : Scene) (pairs : Pairs) (moment : Moment) (r : Reply) → StageStands stage pairs → StageStands stage (pairs ++ (record { moment = moment; step = AskState }, r) ∷ [])
asked-state stage pairs moment r s = stage-unmoved stage pairs (record { moment = moment; step = AskState }, r) s (record {
  marks = refl;
  history = refl;
  tries = λ t. tries_of-push t pairs (record { moment = moment; step = AskState }, r);
})
