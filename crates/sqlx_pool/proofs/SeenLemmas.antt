-- What a call sees of a state, from what the step of the locked value says.
use Rattle.std.proofs.Common.{◌≡◌, ◌⊎◌, ◌∙◌, Bool, true, false, Option, Some, None, is_some, option_map, Result, Ok, Err, IfOk, IfErr, inl, inr, refl, sym, ap, subst}
use Rattle.std.specs.List.{list_any}
use Rattle.sqlx_text.specs.declared.OutOfMemory.{OutOfMemory}
use Rattle.sqlx_text.specs.declared.error.Error.{Error}
use Rattle.sqlx_text.specs.declared.error.Error.TheVariants as error
use Rattle.sqlx_pool_marks.specs.EventTable.{free_at, may_open, size_at}
use Rattle.sqlx_pool_marks.specs.Counts.{waiting_in}
use Rattle.sqlx_pool_marks.specs.Marks.{is_shut, next_conn, tickets_of}
use Rattle.sqlx_pool_lists.specs.Limits.{limits_of}
use Rattle.sqlx_pool_lists.specs.declared.steps.Lent.{Lent}
use Rattle.sqlx_pool_parts.specs.Answers.{lent_alone}
use Rattle.sqlx_pool_parts.specs.declared.mark_log.MarkLog.{MarkLog}
use Rattle.sqlx_pool_parts.specs.MarkLog.{IsCopyOf}
use Rattle.sqlx_pool.specs.Places.{back_if, holds_place}
use Rattle.sqlx_pool.specs.Refusals.{IsAskRefusal, IsTryRefusal}
use Rattle.sqlx_pool_parts.specs.State.{PoolState, start_of, since_start}
use Rattle.sqlx_pool.specs.Upkeep.{has_room, IsFilled}

never : {A : Type 0} → false ≡ true → A
never e = absurd cc

-- what comes back of a place: it isn't kept as the pool is closed, or as no place is held
pub back-why : {C : Type 0} (held shut : Bool) (raw : Option C) → is_some (back_if held shut raw) ≡ true → (shut ≡ true) ⊎ (held ≡ false)
back-why true true raw e = inl refl
back-why true false raw e = never e
back-why false shut raw e = inr refl

-- a closed pool has no place
shut-full : {C O : Type 0} (state : PoolState C O) (shut : Bool) → list_any is_shut state.marks ≡ shut → shut ≡ true → has_room state ≡ false
shut-full state true is e = subst (λ (b : Bool). may_open b (waiting_in (tickets_of state.marks)) (free_at (limits_of state.core.options).max_connections state.core.places state.marks) (size_at state.core.places state.marks) state.core.options.min_connections (limits_of state.core.options).max_connections (next_conn state.marks) ≡ false) (sym is) refl
shut-full state false is e = never e

-- so a connection comes back only where none may be opened, or no place is held
pub back-filled : {C O : Type 0} (state : PoolState C O) (raw back : Option C) → back ≡ back_if (holds_place state.core) (list_any is_shut state.marks) raw → is_some back ≡ true → IsFilled state
back-filled state raw back is some = by (back-why (holds_place state.core) (list_any is_shut state.marks) raw (sym (ap is_some is) ∙ some))
  where
    by : (list_any is_shut state.marks ≡ true) ⊎ (holds_place state.core ≡ false) → IsFilled state
    by (inl shut) = inl (shut-full state (list_any is_shut state.marks) refl shut)
    by (inr none) = inr none

-- what three clauses say of a copy of the log is one fact of it
pub log-copied : {C O : Type 0} (state : PoolState C O) (r : Result MarkLog OutOfMemory)
    → IfOk r (λ log. log.start.items ≡ start_of state) → IfOk r (λ log. log.lent_before ≡ state.start.lent_before) → IfOk r (λ log. log.marks.items ≡ since_start state)
    → IfOk r (λ log. IsCopyOf state log)
log-copied state (Ok log) start before marks = record { start = start; before = before; marks = marks }
log-copied state (Err e) start before marks = tt

-- what isn't some is none
pub is_none : {T : Type 0} (o : Option T) → is_some o ≡ false → o ≡ None
is_none None e = refl
is_none (Some x) e = absurd cc

-- a share of what is lent past the line doesn't change whether it is lent
pub some-alone : {C S : Type 0} (lent : Option (Lent C × S)) → is_some (lent_alone lent) ≡ is_some lent
some-alone None = refl
some-alone (Some (lent, share)) = refl

-- nor does it matter by which of its parts it is told
pub some-told : {A B : Type 0} (f : A → B) (x : Option A) → is_some (option_map f x) ≡ is_some x
some-told f None = refl
some-told f (Some x) = refl

-- why an ask is refused was seen, where each refusal is one that was seen
pub ask-refused : {T closed used : Type 0} (r : Result T Error) → (r ≡ Err error.PoolClosed → closed) → (r ≡ Err error.Exhausted → used)
    → IfErr r (λ e. (e ≡ error.PoolClosed) ⊎ ((e ≡ error.Exhausted) ⊎ (e ≡ error.OutOfMemory))) → IfErr r (IsAskRefusal closed used)
ask-refused (Ok x) shut full why = tt
ask-refused (Err e) shut full (inl is) = inl (is, shut (ap Err is))
ask-refused (Err e) shut full (inr (inl is)) = inr (inl (is, full (ap Err is)))
ask-refused (Err e) shut full (inr (inr is)) = inr (inr is)

-- so for a loan past the line
pub try-refused : {T used : Type 0} (r : Result T Error) → (r ≡ Err error.Exhausted → used)
    → IfErr r (λ e. (e ≡ error.Exhausted) ⊎ (e ≡ error.OutOfMemory)) → IfErr r (IsTryRefusal used)
try-refused (Ok x) full why = tt
try-refused (Err e) full (inl is) = inl (is, full (ap Err is))
try-refused (Err e) full (inr is) = inr is
