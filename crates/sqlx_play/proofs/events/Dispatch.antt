-- An event by its step.
use Rattle.std.proofs.Common.{◌≡◌, ◌^◌, Result, Ok, Err, IfOk, sym, subst, ◌∙◌}
use Rattle.sqlx_text.specs.declared.Moment.{Moment}
use Rattle.sqlx_text.specs.declared.out_of_memory.OutOfMemory.{OutOfMemory}
use Rattle.sqlx_script.specs.declared.step.Event.{Event}
use Rattle.sqlx_script.specs.declared.step.Step.{Step}
use Rattle.sqlx_script.specs.declared.reply.Reply.{Reply}
use Rattle.sqlx_play.specs.stage.Scene.{Scene}
use Rattle.sqlx_play.specs.events.PlaysEvent.{PlaysEvent}
use Rattle.sqlx_play.specs.stage.EventFrame.{Frame, EventFrame}
use Rattle.sqlx_play.specs.ScriptRuns.{runs_after}

same-event : (event : Event) (step : Step) → event.step ≡ step → record { moment = event.moment; step = step } ≡ event
same-event event step is = λ i. record { moment = event.moment; step = sym is i }

-- what was played is the event whose step it is
pub plays-event : (old new : Scene) (event : Event) (step : Step) (r : Result Reply OutOfMemory) → event.step ≡ step
    → IfOk r (PlaysEvent old new (record { moment = event.moment; step = step })) → IfOk r (PlaysEvent old new event)
plays-event old new event step r is ok = subst (λ (e : Event). IfOk r (PlaysEvent old new e)) (same-event event step is) ok

-- and so is what was left
pub frames-event : (old new : Scene) (event : Event) (step : Step) (r : Result Reply OutOfMemory) → event.step ≡ step
    → EventFrame old new (record { moment = event.moment; step = step }) r → EventFrame old new event r
frames-event old new event step r is f = subst (λ (e : Event). EventFrame old new e r) (same-event event step is) f

-- what an event leaves that runs no text
pub frames-no_text : (old new : Scene) (moment : Moment) (s : Step) (r : Result Reply OutOfMemory) → ((reply : Reply) → old.out.store.runs ≡ runs_after s reply old.out.store.runs)
    → Frame old new moment.0 (2 ^ 20) → new.out.store.runs ≡ old.out.store.runs → EventFrame old new (record { moment = moment; step = s }) r
frames-no_text old new moment s (Ok reply) none f runs = record { frame = f; runs = runs ∙ none reply }
frames-no_text old new moment s (Err e) none f runs = record { frame = f; runs = tt }
