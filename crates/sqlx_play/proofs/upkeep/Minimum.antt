-- The stage after it was filled up to the minimum.
use Rattle.std.proofs.Common.{◌≡◌, ℕ, [], ◌∷◌, ◌++◌, sym, ap, subst}
use Rattle.sqlx_text.specs.declared.moment.Moment.{Moment}
use Rattle.sqlx_pool_marks.specs.Marks.{next_conn}
use Rattle.sqlx_script.specs.declared.step.Event.{Event}
use Rattle.sqlx_script.specs.declared.step.Step.TheVariants.{Min}
use Rattle.sqlx_script.specs.declared.reply.Reply.{Reply}
use Rattle.sqlx_script.specs.declared.reply.Reply.TheVariants.{Opened}
use Rattle.sqlx_savepoints.specs.Changes.{History}
use Rattle.sqlx_play.specs.stage.Scene.{Scene}
use Rattle.sqlx_script_rules.specs.ScriptMarks.{marks_of, openings}
use Rattle.sqlx_script_rules.specs.ScriptLevels.{history_of}
use Rattle.sqlx_script_rules.specs.Answer.{opened_for_minimum}
use Rattle.sqlx_play.specs.stage.StageStands.{StageStands}
use Rattle.sqlx_play.specs.stage.StageAdvance.{StageAdvance}
use Rattle.sqlx_play.specs.events.KeepsMinimum.{KeepsMinimum}
use Rattle.sqlx_script_rules.proofs.Gone.{gone-openings}
use Rattle.sqlx_script_rules.proofs.Pairs.{tries_of-push}
use Rattle.sqlx_play.proofs.events.StageAdvanceLemmas.{at-pairs, comes-stands}
use Rattle.sqlx_script_rules.specs.Pairs.{Pairs}

pub plays-min : (old new : Scene) (pairs : Pairs) (moment : Moment) (opens n : ℕ) → StageStands old pairs → KeepsMinimum old new moment.0 opens n
    → (Opened n ≡ Opened (opened_for_minimum old.pool (marks_of old.pool pairs) opens)) × StageStands new (pairs ++ (record { moment = moment; step = Min opens }, Opened n) ∷ [])
plays-min old new pairs moment opens n s fills =
    let pair : Event × Reply = (record { moment = moment; step = Min opens }, Opened n) in
    let marks = marks_of old.pool pairs in
    let done = fills marks (history_of old.pool pairs) (at-pairs old pairs s) in (
      ap Opened done.0,
      comes-stands old new pairs pair s (λ t. tries_of-push t pairs pair)
          (subst (λ (past : History). StageAdvance old new marks (openings n (next_conn marks) moment.0) past) (sym (gone-openings n (next_conn marks) moment.0 (history_of old.pool pairs))) done.1),
    )
