-- The events `end`, `detach` and `leak`: their replies, and the stage behind them.
use Rattle.std.proofs.Common.{◌≡◌, ℕ, Bool, true, false, cond, [], ◌∷◌, ◌++◌, sym, ap, subst, ◌∙◌}
use Rattle.sqlx_text.specs.declared.moment.Moment.{Moment}
use Rattle.sqlx_pool_marks.specs.declared.mark.Mark.TheVariants as mark
use Rattle.sqlx_pool_marks.specs.Marks.{owner_of, next_conn}
use Rattle.sqlx_pool_marks.specs.View.{View}
use Rattle.sqlx_pool_marks.proofs.Pushed.{view_of-push}
use Rattle.sqlx_script.specs.declared.step.Event.{Event}
use Rattle.sqlx_script.specs.declared.step.Step.TheVariants.{End, Detach, Leak}
use Rattle.sqlx_script.specs.declared.reply.Reply.{Reply}
use Rattle.sqlx_script.specs.declared.reply.Reply.TheVariants as reply
use Rattle.sqlx_savepoints.specs.Changes.{leaves, History}
use Rattle.sqlx_play.specs.stage.Scene.{Scene}
use Rattle.sqlx_script_rules.specs.ScriptMarks.{marks_of, openings}
use Rattle.sqlx_script_rules.specs.ScriptLevels.{owns, history_of}
use Rattle.sqlx_script_rules.specs.Answer.{opened_for_minimum}
use Rattle.sqlx_play.specs.stage.StageStands.{StageStands}
use Rattle.sqlx_play.specs.stage.StageAdvance.{StageAdvance}
use Rattle.sqlx_play.specs.events.KeepsMinimum.{KeepsMinimum}
use Rattle.sqlx_play.specs.events.LoanEnds.{LoanEnds}
use Rattle.sqlx_script_rules.proofs.Gone.{gone-openings}
use Rattle.sqlx_script_rules.proofs.Pairs.{tries_of-push}
use Rattle.sqlx_play.proofs.events.StageAdvanceLemmas.{at-pairs, comes-stands}
use Rattle.sqlx_play.proofs.upkeep.KeepsMinimumBehind.{fill-behind}
use Rattle.sqlx_script_rules.specs.Pairs.{Pairs}

module _ (old : Scene) (pairs : Pairs) (moment : Moment) (k c opens : ℕ) (s : StageStands old pairs) where
  -- the reply by the owner
  replied : (b : Bool) (one other : Reply) → b ≡ owns k (owner_of c (marks_of old.pool pairs)) → cond b one other ≡ cond (owns k (owner_of c (marks_of old.pool pairs))) one other
  replied b one other e = ap (λ (d : Bool). cond d one other) e

  pub end-not : (new : Scene) → LoanEnds old new (mark.Closed c) k c false
      → (reply.NotHeld ≡ cond (owns k (owner_of c (marks_of old.pool pairs))) (reply.Closed (opened_for_minimum old.pool (marks_of old.pool pairs ++ mark.Closed c ∷ []) opens)) reply.NotHeld)
      × StageStands new (pairs ++ (record { moment = moment; step = End k c opens }, reply.NotHeld) ∷ [])
  end-not new departs =
      let pair : Event × Reply = (record { moment = moment; step = End k c opens }, reply.NotHeld) in
      let done = departs (marks_of old.pool pairs) (history_of old.pool pairs) (at-pairs old pairs s) in (
        replied false (reply.Closed (opened_for_minimum old.pool (marks_of old.pool pairs ++ mark.Closed c ∷ []) opens)) reply.NotHeld done.0,
        comes-stands old new pairs pair s (λ t. tries_of-push t pairs pair) done.1,
      )

  pub end-done : (mid new : Scene) (n : ℕ) → LoanEnds old mid (mark.Closed c) k c true → KeepsMinimum mid new moment.0 opens n
      → (reply.Closed n ≡ cond (owns k (owner_of c (marks_of old.pool pairs))) (reply.Closed (opened_for_minimum old.pool (marks_of old.pool pairs ++ mark.Closed c ∷ []) opens)) reply.NotHeld)
      × StageStands new (pairs ++ (record { moment = moment; step = End k c opens }, reply.Closed n) ∷ [])
  end-done mid new n departs fills =
      let pair : Event × Reply = (record { moment = moment; step = End k c opens }, reply.Closed n) in
      let marks = marks_of old.pool pairs in
      let past = history_of old.pool pairs in
      let at = at-pairs old pairs s in
      let done = departs marks past at in
      let same : next_conn (marks ++ mark.Closed c ∷ []) ≡ next_conn marks = ap (λ (v : View). v.next_conn) (view_of-push marks (mark.Closed c)) in
      let both = fill-behind old mid new marks (mark.Closed c ∷ []) past (leaves c ∷ past) moment.0 opens n same at done.1 fills in (
        ap reply.Closed both.0 ∙ replied true (reply.Closed (opened_for_minimum old.pool (marks_of old.pool pairs ++ mark.Closed c ∷ []) opens)) reply.NotHeld done.0,
        comes-stands old new pairs pair s (λ t. tries_of-push t pairs pair)
            (subst (λ (h : History). StageAdvance old new marks (mark.Closed c ∷ openings n (next_conn marks) moment.0) h) (sym (gone-openings n (next_conn marks) moment.0 (leaves c ∷ past))) both.1),
      )

  pub detach-not : (new : Scene) → LoanEnds old new (mark.Detached c) k c false
      → (reply.NotHeld ≡ cond (owns k (owner_of c (marks_of old.pool pairs))) (reply.Detached (opened_for_minimum old.pool (marks_of old.pool pairs ++ mark.Detached c ∷ []) opens)) reply.NotHeld)
      × StageStands new (pairs ++ (record { moment = moment; step = Detach k c opens }, reply.NotHeld) ∷ [])
  detach-not new departs =
      let pair : Event × Reply = (record { moment = moment; step = Detach k c opens }, reply.NotHeld) in
      let done = departs (marks_of old.pool pairs) (history_of old.pool pairs) (at-pairs old pairs s) in (
        replied false (reply.Detached (opened_for_minimum old.pool (marks_of old.pool pairs ++ mark.Detached c ∷ []) opens)) reply.NotHeld done.0,
        comes-stands old new pairs pair s (λ t. tries_of-push t pairs pair) done.1,
      )

  pub detach-done : (mid new : Scene) (n : ℕ) → LoanEnds old mid (mark.Detached c) k c true → KeepsMinimum mid new moment.0 opens n
      → (reply.Detached n ≡ cond (owns k (owner_of c (marks_of old.pool pairs))) (reply.Detached (opened_for_minimum old.pool (marks_of old.pool pairs ++ mark.Detached c ∷ []) opens)) reply.NotHeld)
      × StageStands new (pairs ++ (record { moment = moment; step = Detach k c opens }, reply.Detached n) ∷ [])
  detach-done mid new n departs fills =
      let pair : Event × Reply = (record { moment = moment; step = Detach k c opens }, reply.Detached n) in
      let marks = marks_of old.pool pairs in
      let past = history_of old.pool pairs in
      let at = at-pairs old pairs s in
      let done = departs marks past at in
      let same : next_conn (marks ++ mark.Detached c ∷ []) ≡ next_conn marks = ap (λ (v : View). v.next_conn) (view_of-push marks (mark.Detached c)) in
      let both = fill-behind old mid new marks (mark.Detached c ∷ []) past (leaves c ∷ past) moment.0 opens n same at done.1 fills in (
        ap reply.Detached both.0 ∙ replied true (reply.Detached (opened_for_minimum old.pool (marks_of old.pool pairs ++ mark.Detached c ∷ []) opens)) reply.NotHeld done.0,
        comes-stands old new pairs pair s (λ t. tries_of-push t pairs pair)
            (subst (λ (h : History). StageAdvance old new marks (mark.Detached c ∷ openings n (next_conn marks) moment.0) h) (sym (gone-openings n (next_conn marks) moment.0 (leaves c ∷ past))) both.1),
      )

  pub leak-not : (new : Scene) → LoanEnds old new (mark.Leaked c) k c false
      → (reply.NotHeld ≡ cond (owns k (owner_of c (marks_of old.pool pairs))) (reply.Leaked (opened_for_minimum old.pool (marks_of old.pool pairs ++ mark.Leaked c ∷ []) opens)) reply.NotHeld)
      × StageStands new (pairs ++ (record { moment = moment; step = Leak k c opens }, reply.NotHeld) ∷ [])
  leak-not new departs =
      let pair : Event × Reply = (record { moment = moment; step = Leak k c opens }, reply.NotHeld) in
      let done = departs (marks_of old.pool pairs) (history_of old.pool pairs) (at-pairs old pairs s) in (
        replied false (reply.Leaked (opened_for_minimum old.pool (marks_of old.pool pairs ++ mark.Leaked c ∷ []) opens)) reply.NotHeld done.0,
        comes-stands old new pairs pair s (λ t. tries_of-push t pairs pair) done.1,
      )

  pub leak-done : (mid new : Scene) (n : ℕ) → LoanEnds old mid (mark.Leaked c) k c true → KeepsMinimum mid new moment.0 opens n
      → (reply.Leaked n ≡ cond (owns k (owner_of c (marks_of old.pool pairs))) (reply.Leaked (opened_for_minimum old.pool (marks_of old.pool pairs ++ mark.Leaked c ∷ []) opens)) reply.NotHeld)
      × StageStands new (pairs ++ (record { moment = moment; step = Leak k c opens }, reply.Leaked n) ∷ [])
  leak-done mid new n departs fills =
      let pair : Event × Reply = (record { moment = moment; step = Leak k c opens }, reply.Leaked n) in
      let marks = marks_of old.pool pairs in
      let past = history_of old.pool pairs in
      let at = at-pairs old pairs s in
      let done = departs marks past at in
      let same : next_conn (marks ++ mark.Leaked c ∷ []) ≡ next_conn marks = ap (λ (v : View). v.next_conn) (view_of-push marks (mark.Leaked c)) in
      let both = fill-behind old mid new marks (mark.Leaked c ∷ []) past (leaves c ∷ past) moment.0 opens n same at done.1 fills in (
        ap reply.Leaked both.0 ∙ replied true (reply.Leaked (opened_for_minimum old.pool (marks_of old.pool pairs ++ mark.Leaked c ∷ []) opens)) reply.NotHeld done.0,
        comes-stands old new pairs pair s (λ t. tries_of-push t pairs pair)
            (subst (λ (h : History). StageAdvance old new marks (mark.Leaked c ∷ openings n (next_conn marks) moment.0) h) (sym (gone-openings n (next_conn marks) moment.0 (leaves c ∷ past))) both.1),
      )
