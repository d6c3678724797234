-- The marks of a script are fair, by its events and replies alone.
use Rattle.std.proofs.Common.{◌≡◌, ℕ, ◌≤◌, Bool, true, false, not, if◌then◌else◌, List, [], ◌∷◌, ◌++◌, Option, Some, None, refl, sym, subst}
use Rattle.std.specs.List.{list_any}
use Rattle.sqlx_pool_marks.specs.declared.mark.Mark.{Mark}
use Rattle.sqlx_pool_marks.specs.Marks.{PendingTicket, tickets_of, is_shut, next_ticket}
use Rattle.sqlx_pool_marks.specs.Counts.{asked_in}
use Rattle.sqlx_pool_marks.specs.FairLog.{IsFair}
use Rattle.sqlx_pool_marks.proofs.FairLaws.{fair-append}
use Rattle.sqlx_script.specs.declared.pool_line.PoolLine.{PoolLine}
use Rattle.sqlx_script.specs.declared.step.Event.{Event}
use Rattle.sqlx_script.specs.declared.step.Step.{Step}
use Rattle.sqlx_script.specs.declared.step.Step.TheVariants as step
use Rattle.sqlx_script.specs.declared.reply.Reply.{Reply}
use Rattle.sqlx_script.specs.declared.reply.Reply.TheVariants as reply
use Rattle.sqlx_savepoints.specs.Changes.{History}
use Rattle.sqlx_script_rules.specs.Tries.{tries_of}
use Rattle.sqlx_script_rules.specs.ScriptMarks.{made, added, marks_of}
use Rattle.sqlx_script_rules.specs.ScriptLevels.{statement_of, history_of}
use Rattle.sqlx_script_rules.specs.Answer.{cancel_reply, reply_at, answer}
use Rattle.sqlx_player.specs.Output.{pairs_after}
use Rattle.sqlx_script_rules.specs.Output.{pool_rules}
use Rattle.sqlx_script_rules.proofs.Pairs.{marks_of-nil, marks_of-push}
use Rattle.sqlx_script_rules.proofs.FairEvents.{fair-nothing, fair-ask, fair-found_ended, fair-try, fair-give, fair-end, fair-detach, fair-leak, fair-reap, fair-min, fair-close}
use Rattle.sqlx_script_rules.proofs.FairPolls.{fair-poll}
use Rattle.sqlx_script_rules.specs.Pairs.{Pairs}

-- ---- one event

module _ (pool : PoolLine) (many : 1 ≤ pool.tries) (pairs : Pairs) (marks : List Mark) (past : History) (m : ℕ) (f : IsFair pool.max [] marks) where
  asked_by : (client : ℕ) (b : Bool) → list_any is_shut marks ≡ b → IsFair pool.max marks (made pool marks m (step.Ask client) (if not b then reply.Ticket (next_ticket marks) else reply.PoolClosed))
  asked_by client true e = fair-nothing pool.max marks
  asked_by client false e = fair-ask pool marks f client m e

  cancelled_by : (client ticket : ℕ) (o : Option PendingTicket) → asked_in client ticket (tickets_of marks) ≡ o → IsFair pool.max marks (made pool marks m (step.Cancel client ticket) (cancel_reply o))
  cancelled_by client ticket None e = fair-nothing pool.max marks
  cancelled_by client ticket (Some a) e = fair-found_ended pool marks f client ticket a e

  pub fair-made : (s : Step) → IsFair pool.max marks (made pool marks m s (reply_at pool pairs marks past m s (statement_of s)))
  fair-made (step.Ask client) = asked_by client (list_any is_shut marks) refl
  fair-made (step.Poll client ticket answers) = fair-poll pool many answers marks f m client ticket (tries_of ticket pairs)
  fair-made (step.Cancel client ticket) = cancelled_by client ticket (asked_in client ticket (tickets_of marks)) refl
  fair-made (step.Try client) = fair-try pool marks f client m
  fair-made (step.Give client c answers opens) = fair-give pool marks f client c m opens answers past
  fair-made (step.End client c opens) = fair-end pool marks f client c m opens
  fair-made (step.Detach client c opens) = fair-detach pool marks f client c m opens
  fair-made (step.Leak client c opens) = fair-leak pool marks f client c m opens
  fair-made (step.Reap opens) = fair-reap pool marks f m opens
  fair-made (step.Min opens) = fair-min pool marks f m opens
  fair-made step.Close = fair-close pool marks f
  fair-made other = fair-nothing pool.max marks

-- ---- a script

pub fair-answer : (pool : PoolLine) → 1 ≤ pool.tries → (pairs : Pairs) (event : Event) → IsFair pool.max [] (marks_of pool pairs) → IsFair pool.max (marks_of pool pairs) (added pool (marks_of pool pairs) (event, answer pool pairs event))
unfolding answer
fair-answer pool many pairs event f = fair-made pool many pairs (marks_of pool pairs) (history_of pool pairs) event.moment.0 f event.step

pub fair-push : (pool : PoolLine) → 1 ≤ pool.tries → (pairs : Pairs) (event : Event) → IsFair pool.max [] (marks_of pool pairs) → IsFair pool.max [] (marks_of pool (pairs ++ (event, answer pool pairs event) ∷ []))
fair-push pool many pairs event f =
    let pair : Event × Reply = (event, answer pool pairs event) in
    subst (IsFair pool.max []) (sym (marks_of-push pool pairs pair)) (fair-append pool.max [] (marks_of pool pairs) (added pool (marks_of pool pairs) pair) f (fair-answer pool many pairs event f))

fair-after : (pool : PoolLine) → 1 ≤ pool.tries → (pairs : Pairs) (events : List Event) → IsFair pool.max [] (marks_of pool pairs) → IsFair pool.max [] (marks_of pool (pairs_after pool_rules pool pairs events))
unfolding pairs_after
fair-after pool many pairs [] f = f
fair-after pool many pairs (event ∷ events) f = fair-after pool many (pairs ++ (event, answer pool pairs event) ∷ []) events (fair-push pool many pairs event f)

pub fair-none : (pool : PoolLine) → IsFair pool.max [] (marks_of pool [])
fair-none pool = subst (IsFair pool.max []) (sym (marks_of-nil pool)) (fair-nothing pool.max [])

pub fair-script : (pool : PoolLine) → 1 ≤ pool.tries → (events : List Event) → IsFair pool.max [] (marks_of pool (pairs_after pool_rules pool [] events))
fair-script pool many events = fair-after pool many [] events (fair-none pool)
