-- What a step of a lone pool's locked value says by its clauses, as one fact of the step.
use Rattle.std.proofs.Common.{◌≡◌, ℕ, ◌++◌, ◌∷◌, [], Bool, true, false, max, Option, option_map, Result, Ok, Err, IfOk, OnOk, OnErr, sym, subst}
use Rattle.sqlx_text.specs.declared.Moment.{Moment}
use Rattle.sqlx_text.specs.declared.OutOfMemory.{OutOfMemory}
use Rattle.sqlx_text.specs.declared.error.Error.{Error}
use Rattle.sqlx_pool_marks.specs.declared.mark.Mark.TheVariants.{Asked}
use Rattle.sqlx_pool_marks.specs.Answers.{lent_past_at}
use Rattle.sqlx_pool_marks.specs.EventTable.{has_place_at}
use Rattle.sqlx_pool_lists.specs.Edits.{at_moment, asked}
use Rattle.sqlx_pool_lists.specs.Limits.{limits_of}
use Rattle.sqlx_pool_lists.specs.MaintenanceSteps.{placed}
use Rattle.sqlx_pool_lists.specs.PollSteps.{try_lent, try_marks, after_try}
use Rattle.sqlx_pool_lists.specs.declared.steps.Lent.{Lent}
use Rattle.sqlx_pool_core.specs.Answers.{lent_conn}
use Rattle.sqlx_pool_core.specs.Logs.{moment_of}
use Rattle.sqlx_pool_parts.specs.Answers.{IsNextTicket, lent_alone}
use Rattle.sqlx_pool_parts.specs.State.{PoolState}
use Rattle.sqlx_pool.specs.Calls.{past_alone}
use Rattle.sqlx_pool.specs.Calls as call
use Rattle.sqlx_pool.specs.Lone.{DoesLone}
use Rattle.sqlx_pool.specs.Steps.{deadline_at, passes}

-- what holds on a refusal holds where the answer is one
pub on_err : {T P : Type 0} (r : Result T Error) (e : Error) → OnErr r P → r ≡ Err e → P
on_err (Ok x) e p is = absurd cc
on_err (Err x) e p is = p

-- what was told of the state before a refusal holds of the one after
pub told_still : {S T : Type 0} (r : Result T Error) (e : Error) (holds : S → Type 0) (before after : S) → OnErr r (after ≡ before) → r ≡ Err e → holds before → holds after
told_still r e holds before after same is told = subst holds (sym (on_err r e same is)) told

module _ {C O : Type 0} (most : ℕ) (before after : PoolState C O) where
  -- an ask
  pub asks : (now : Moment) (client : ℕ) (r : Result ℕ Error)
      → IfOk r (λ ticket. IsNextTicket ticket before)
      → IfOk r (λ ticket. after.marks ≡ before.marks ++ Asked ticket client (deadline_at before now) ∷ [])
      → OnOk r (after.core ≡ at_moment (moment_of before.core now) (asked client (deadline_at before now) before.core))
      → OnErr r (after ≡ before)
      → DoesLone most (call.Ask tt now client r) before after
  asks now client (Ok ticket) next marks becomes err = record { next = next; marks = marks; becomes = becomes }
  asks now client (Err e) next marks becomes err = err

  -- a loan past the line
  pub lends_past : {S : Type 0} (P : Type 0) (now : Moment) (client : ℕ) (r : Result (Option (Lent C × S)) Error)
      → IfOk r (λ lent. option_map lent_conn (lent_alone lent) ≡ lent_past_at most before.core.places before.marks)
      → IfOk r (λ lent. lent_alone lent ≡ try_lent (passes before.core) before.core.idle)
      → IfOk r (λ lent. after.marks ≡ before.marks ++ try_marks client (lent_alone lent))
      → IfOk r (λ lent. after.core ≡ after_try client (moment_of before.core now) (lent_alone lent) before.core)
      → OnErr r ((after ≡ before) × P)
      → DoesLone most (call.LendPast tt now client (past_alone r)) before after
  lends_past P now client (Ok lent) answer first marks becomes err = record { answer = answer; first = first; marks = marks; becomes = becomes }
  lends_past P now client (Err e) answer first marks becomes err = err.0

  -- a place for one of so many, where memory was had
  pub places_first : (r : Result Bool OutOfMemory)
      → IfOk r (λ place. place ≡ has_place_at (limits_of before.core.options) before.core.places before.marks (max before.core.options.min_connections 1))
      → IfOk r (λ place. after.core ≡ placed place before.core) → after.marks ≡ before.marks → OnErr r (after ≡ before)
      → DoesLone most (call.FirstPlace tt r) before after
  places_first (Ok place) answer becomes marks err = record { answer = answer; marks = marks; becomes = becomes }
  places_first (Err e) answer becomes marks err = err

  pub places : (r : Result Bool OutOfMemory)
      → IfOk r (λ place. place ≡ has_place_at (limits_of before.core.options) before.core.places before.marks before.core.options.min_connections)
      → IfOk r (λ place. after.core ≡ placed place before.core) → after.marks ≡ before.marks → OnErr r (after ≡ before)
      → DoesLone most (call.MinimumPlace tt r) before after
  places (Ok place) answer becomes marks err = record { answer = answer; marks = marks; becomes = becomes }
  places (Err e) answer becomes marks err = err

-- where no place is held none may be
pub full : (state : Bool → Type 0) (r : Result Bool OutOfMemory) → IfOk r state → r ≡ Ok false → state false
full state (Ok true) has is = absurd cc
full state (Ok false) has is = has
full state (Err e) has is = absurd cc
