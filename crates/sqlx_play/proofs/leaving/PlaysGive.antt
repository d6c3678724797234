-- The event `give`: its reply, and the stage behind it.
use Rattle.std.proofs.Common.{◌≡◌, ℕ, Bool, true, false, cond, [], ◌∷◌, ◌++◌, refl, sym, ap, subst, ◌∙◌}
use Rattle.sqlx_text.specs.declared.moment.Moment.{Moment}
use Rattle.sqlx_pool_marks.specs.declared.mark.Mark.TheVariants as mark
use Rattle.sqlx_pool_marks.specs.Marks.{owner_of, next_conn}
use Rattle.sqlx_pool_marks.specs.View.{View}
use Rattle.sqlx_pool_marks.proofs.Pushed.{view_of-push}
use Rattle.sqlx_script.specs.declared.answers.GiveAnswers.{GiveAnswers}
use Rattle.sqlx_script.specs.declared.step.Event.{Event}
use Rattle.sqlx_script.specs.declared.step.Step.TheVariants.{Give}
use Rattle.sqlx_script.specs.declared.reply.Reply.{Reply}
use Rattle.sqlx_script.specs.declared.reply.Reply.TheVariants as reply
use Rattle.sqlx_savepoints.specs.Changes.{leaves, History}
use Rattle.sqlx_play.specs.declared.stage.loans.give.Returned.{Returned}
use Rattle.sqlx_play.specs.declared.stage.loans.give.Returned.TheVariants as word
use Rattle.sqlx_play.specs.stage.Scene.{Scene}
use Rattle.sqlx_script_rules.specs.ScriptMarks.{marks_of, openings}
use Rattle.sqlx_script_rules.specs.ScriptLevels.{owns, history_of}
use Rattle.sqlx_script_rules.specs.Answer.{is_kept, give_reply, opened_for_minimum}
use Rattle.sqlx_play.specs.stage.StageStands.{StageStands}
use Rattle.sqlx_play.specs.stage.StageAdvance.{StageAdvance}
use Rattle.sqlx_play.specs.events.KeepsMinimum.{KeepsMinimum}
use Rattle.sqlx_play.specs.events.GivesBack.{returned, GivesBack}
use Rattle.sqlx_script_rules.proofs.Gone.{gone-openings}
use Rattle.sqlx_script_rules.proofs.Pairs.{tries_of-push}
use Rattle.sqlx_play.proofs.events.StageAdvanceLemmas.{at-pairs, comes-stands}
use Rattle.sqlx_play.proofs.upkeep.KeepsMinimumBehind.{fill-behind}
use Rattle.sqlx_script_rules.specs.Pairs.{Pairs}

-- the reply by the word, where a connection that was closed has this one
abbrev pub word_reply : Reply → Returned → Reply
word_reply closed word.Kept = reply.Kept
word_reply closed word.Closed = closed
word_reply closed word.NotHeld = reply.NotHeld

reply_by : (closed : Reply) (o k : Bool) → word_reply closed (cond o (cond k word.Kept word.Closed) word.NotHeld) ≡ cond o (cond k reply.Kept closed) reply.NotHeld
reply_by closed true true = refl
reply_by closed true false = refl
reply_by closed false k = refl

module _ (old : Scene) (pairs : Pairs) (moment : Moment) (k c opens : ℕ) (answers : GiveAnswers) (s : StageStands old pairs) where
  -- the reply that is due
  abbrev pub due : Reply
  due = cond (owns k (owner_of c (marks_of old.pool pairs))) (give_reply old.pool answers (marks_of old.pool pairs) (history_of old.pool pairs) moment.0 c opens) reply.NotHeld

  told : (w : Returned) → w ≡ returned old.pool answers moment.0 k c (marks_of old.pool pairs) (history_of old.pool pairs)
      → word_reply (reply.Closed (opened_for_minimum old.pool (marks_of old.pool pairs ++ mark.Closed c ∷ []) opens)) w ≡ due
  told w e =
      let closed = reply.Closed (opened_for_minimum old.pool (marks_of old.pool pairs ++ mark.Closed c ∷ []) opens) in
      ap (word_reply closed) e ∙ reply_by closed (owns k (owner_of c (marks_of old.pool pairs))) (is_kept old.pool answers (marks_of old.pool pairs) (history_of old.pool pairs) moment.0 c)

  pub plays-kept : (new : Scene) → GivesBack old new answers moment.0 k c word.Kept → (reply.Kept ≡ due) × StageStands new (pairs ++ (record { moment = moment; step = Give k c answers opens }, reply.Kept) ∷ [])
  plays-kept new returns =
      let pair : Event × Reply = (record { moment = moment; step = Give k c answers opens }, reply.Kept) in
      let done = returns (marks_of old.pool pairs) (history_of old.pool pairs) (at-pairs old pairs s) in
      (told word.Kept done.0, comes-stands old new pairs pair s (λ t. tries_of-push t pairs pair) done.1)

  pub plays-not_held : (new : Scene) → GivesBack old new answers moment.0 k c word.NotHeld → (reply.NotHeld ≡ due) × StageStands new (pairs ++ (record { moment = moment; step = Give k c answers opens }, reply.NotHeld) ∷ [])
  plays-not_held new returns =
      let pair : Event × Reply = (record { moment = moment; step = Give k c answers opens }, reply.NotHeld) in
      let done = returns (marks_of old.pool pairs) (history_of old.pool pairs) (at-pairs old pairs s) in
      (told word.NotHeld done.0, comes-stands old new pairs pair s (λ t. tries_of-push t pairs pair) done.1)

  pub plays-closed : (mid new : Scene) (n : ℕ) → GivesBack old mid answers moment.0 k c word.Closed → KeepsMinimum mid new moment.0 opens n
      → (reply.Closed n ≡ due) × StageStands new (pairs ++ (record { moment = moment; step = Give k c answers opens }, reply.Closed n) ∷ [])
  plays-closed mid new n returns fills =
      let pair : Event × Reply = (record { moment = moment; step = Give k c answers opens }, reply.Closed n) in
      let marks = marks_of old.pool pairs in
      let past = history_of old.pool pairs in
      let at = at-pairs old pairs s in
      let done = returns marks past at in
      let same : next_conn (marks ++ mark.Closed c ∷ []) ≡ next_conn marks = ap (λ (v : View). v.next_conn) (view_of-push marks (mark.Closed c)) in
      let both = fill-behind old mid new marks (mark.Closed c ∷ []) past (leaves c ∷ past) moment.0 opens n same at done.1 fills in (
        ap reply.Closed both.0 ∙ told word.Closed done.0,
        comes-stands old new pairs pair s (λ t. tries_of-push t pairs pair)
            (subst (λ (h : History). StageAdvance old new marks (mark.Closed c ∷ openings n (next_conn marks) moment.0) h) (sym (gone-openings n (next_conn marks) moment.0 (leaves c ∷ past))) both.1),
      )
