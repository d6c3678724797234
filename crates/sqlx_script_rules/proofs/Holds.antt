-- The headline holds of each script whose replies are the answers.
use Rattle.std.proofs.Common.{◌≡◌, ◌≤◌, Bool, true, false, List, [], ◌∷◌, ◌++◌, find, Option, Some, None, option_map, refl, sym, ap, subst, ◌∙◌}
use Rattle.std.specs.List.{list_any}
use Rattle.sqlx_pool_marks.specs.Marks.{Loan, loans_of, is_loan_of}
use Rattle.sqlx_pool_marks.specs.View.{view_of}
use Rattle.sqlx_pool_marks.specs.FairLog.{IsFair}
use Rattle.sqlx_pool_marks.specs.Laws.{NoTwoOwners, InTurn}
use Rattle.sqlx_pool_marks.proofs.LogLaws.{lends-once, keeps-the-line}
use Rattle.sqlx_pool_marks.proofs.SoundViews.{none-counts}
use Rattle.sqlx_script.specs.declared.pool_line.PoolLine.{PoolLine}
use Rattle.sqlx_script.specs.declared.step.Event.{Event}
use Rattle.sqlx_script.specs.declared.step.Step.TheVariants.{Poll}
use Rattle.sqlx_script.specs.declared.reply.Reply.{Reply}
use Rattle.sqlx_savepoints.specs.Brackets.{depth}
use Rattle.sqlx_script_rules.specs.ScriptMarks.{added, marks_of}
use Rattle.sqlx_script_rules.specs.ScriptLevels.{history_of}
use Rattle.sqlx_script_rules.specs.Answer.{answer}
use Rattle.sqlx_player.specs.Output.{pairs_after}
use Rattle.sqlx_script_rules.specs.Output.{pool_rules}
use Rattle.sqlx_script_rules.specs.Headline.{RestsUnowned, LendsAtRest, KeepsMaximum, StopsInTurn, WaitsInTurn, HoldsHeadline}
use Rattle.sqlx_script_rules.proofs.Fronts.{AllFronts, all-fronts, are-answers}
use Rattle.sqlx_script_rules.proofs.Pairs.{history_of-nil}
use Rattle.sqlx_script_rules.proofs.InTurn.{stops-in-turn}
use Rattle.sqlx_script_rules.proofs.FairEvents.{fair-within}
use Rattle.sqlx_script_rules.proofs.FairScripts.{fair-none, fair-push, fair-script}
use Rattle.sqlx_script_rules.proofs.AtRest.{IsAtRest, lends-answer, at_rest-push}
use Rattle.sqlx_script_rules.specs.Pairs.{Pairs}

-- ---- behind each event

-- The marks are fair, and no connection without an owner has an open level.
record IsRight (pool : PoolLine) (pairs : Pairs) : Type 0 where
  fair : IsFair pool.max [] (marks_of pool pairs)
  rests : IsAtRest (view_of (marks_of pool pairs)) (history_of pool pairs)

module _ (pool : PoolLine) (many : 1 ≤ pool.tries) (events : List Event) where
  right : AllFronts (IsRight pool) (pairs_after pool_rules pool [] events)
  right = all-fronts pool (IsRight pool) push none events
    where
      none : IsRight pool []
      none = record { fair = fair-none pool; rests = λ c unowned. ap (depth c) (history_of-nil pool) }

      push : (pairs : Pairs) (e : Event) → IsRight pool pairs → IsRight pool (pairs ++ (e, answer pool pairs e) ∷ [])
      push pairs e h = record { fair = fair-push pool many pairs e h.fair; rests = at_rest-push pool many pairs e h.fair h.rests }

  -- ---- the clauses

  none_found : {X : Type 0} (p : X → Bool) (xs : List X) → find p xs ≡ None → list_any p xs ≡ false
  none_found p [] e = refl
  none_found p (x ∷ xs) e = none_at p x xs (p x) refl e (none_found p xs) where
    none_at : {X : Type 0} (p : X → Bool) (x : X) (xs : List X) (b : Bool) → p x ≡ b → find p (x ∷ xs) ≡ None → (find p xs ≡ None → list_any p xs ≡ false) → list_any p (x ∷ xs) ≡ false
    none_at p x xs true is e rest = absurd (let f : ◌≡◌ {A = Option _} (Some x) None = rw is at e in cc)
    none_at p x xs false is e rest = rw is (rest (rw is at e))

  no_loan : (o : Option Loan) → option_map (λ (l : Loan). l.client) o ≡ None → o ≡ None
  no_loan None e = refl
  no_loan (Some l) e = absurd cc

  pub rests-script : RestsUnowned pool (pairs_after pool_rules pool [] events)
  rests-script front later e c unowned =
      let loans = loans_of (marks_of pool front) in
      (right front later e).rests c (none-counts (is_loan_of c) loans (none_found (is_loan_of c) loans (no_loan (find (is_loan_of c) loans) unowned)))

  pub lends-script : LendsAtRest pool (pairs_after pool_rules pool [] events)
  lends-script front later pair done rest client conn e made =
      let is = right front (pair ∷ later) e in
      let answered : pair ≡ (pair.0, answer pool front pair.0) = are-answers pool events front pair later e in
      lends-answer pool many front pair.0 is.fair is.rests done rest client conn (ap (added pool (marks_of pool front)) (sym answered) ∙ made)

  pub within-script : KeepsMaximum pool (pairs_after pool_rules pool [] events)
  within-script front later e = fair-within pool.max (marks_of pool front) (right front later e).fair

  pub waits-script : WaitsInTurn pool (pairs_after pool_rules pool [] events)
  waits-script front later moment client ticket answers r e =
      let event : Event = record { moment = moment; step = Poll client ticket answers } in
      let answered : (event, r) ≡ (event, answer pool front event) = are-answers pool events front (event, r) later e in
      subst (StopsInTurn pool front moment.0 client ticket) (sym (ap (λ (pair : Event × Reply). pair.1) answered)) (stops-in-turn pool front moment client ticket answers)

  pub lends_once-script : NoTwoOwners [] (marks_of pool (pairs_after pool_rules pool [] events))
  lends_once-script = lends-once pool.max [] (marks_of pool (pairs_after pool_rules pool [] events)) (fair-script pool many events).safe

  pub line-script : InTurn pool.max [] (marks_of pool (pairs_after pool_rules pool [] events))
  line-script = keeps-the-line pool.max [] (marks_of pool (pairs_after pool_rules pool [] events)) (fair-script pool many events).order

  pub headline-holds : HoldsHeadline pool (pairs_after pool_rules pool [] events)
  headline-holds = record {
    no_two_owners = lends_once-script;
    lends_at_rest = lends-script;
    rests = rests-script;
    waits_in_turn = waits-script;
    in_turn = line-script;
    within = within-script;
  }
