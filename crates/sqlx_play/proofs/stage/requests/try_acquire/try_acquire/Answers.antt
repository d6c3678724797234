use Rattle.std.proofs.Common.{◌≡◌, [], ◌∷◌, ◌++◌, IfOk, OnOk, Ok, Err, Result, refl, ◌∙◌, rules}
use Rattle.sqlx_script.specs.declared.step.Step.TheVariants.{Try}
use Rattle.sqlx_script.specs.declared.reply.Reply.{Reply}
use Rattle.sqlx_script.specs.declared.reply.Reply.TheVariants.{Ready}
use Rattle.sqlx_script_rules.specs.Answer.{answer}
use Rattle.sqlx_play.specs.events.PlaysEvent.{PlaysEvent}
use Rattle.sqlx_text.specs.declared.out_of_memory.OutOfMemory.{OutOfMemory}
use Rattle.sqlx_play.proofs.events.Dispatch.{frames-no_text}
use Rattle.sqlx_play.proofs.asks.CancelAndTry.{try-reply, unlent-stands, tried-stands, first-idle}
use Rattle.sqlx_play.specs.stage.Scene.{scene_of}
use Rattle.sqlx_play.proofs.stage.requests.try_acquire.try_acquire.Goals as goal

pub returns-in-None-clause-ok : goal.returns-in-None-clause-ok
unfolding answer
returns-in-None-clause-ok c pairs s = (
  try-reply (scene_of c.args.stage.now) pairs _ s c.in-None.ensures.answer,
  unlent-stands (scene_of c.args.stage.now) _ pairs c.args.moment c.args.client s c.in-None.ensures.becomes,
)

pub returns-in-Some-clause-ok : goal.returns-in-Some-clause-ok
unfolding answer
returns-in-Some-clause-ok c = by c.hand_over.result c.hand_over.ensures.answer c.hand_over.ensures.owned
  where
    by : (r : Result Reply OutOfMemory) → IfOk r (λ reply. reply ≡ Ready c.in-Some.lent.id) → OnOk r (c.hand_over.new.owned.items ≡ c.args.stage.now.lent.items ++ c.in-Some.lent ∷ [])
        → IfOk r (PlaysEvent (scene_of c.args.stage.now) (record (scene_of c.args.stage.now) { core = c.try_acquire.new.self.pool; lent = c.hand_over.new.owned }) (record { moment = c.args.moment; step = Try c.args.client }))
    by (Ok reply) is owned = λ pairs s. (
      is ∙ try-reply (scene_of c.args.stage.now) pairs _ s c.in-Some.ensures.answer,
      tried-stands (scene_of c.args.stage.now) _ pairs c.args.moment c.args.client _ c.in-Some.lent reply s (first-idle c.args.stage.now.core.pool _ c.in-Some.lent c.in-Some.ensures.answer) is c.in-Some.ensures.becomes refl owned refl (c.in-Some.ensures.makes _ s.stands),
    )
    by (Err e) is owned = tt

pub returns-in-Some-clause-frame : goal.returns-in-Some-clause-frame
returns-in-Some-clause-frame c =
    frames-no_text (scene_of c.args.stage.now) (record (scene_of c.args.stage.now) { core = c.try_acquire.new.self.pool; lent = c.hand_over.new.owned }) c.args.moment (Try c.args.client) c.hand_over.result (λ reply. refl)
    (search rules) refl
