-- What each step of the core leaves: its options, and idle connections without an open level.
use Rattle.std.proofs.Common.{◌≡◌, ℕ, Bool, true, false, cond, not, ◌&&◌, List, [], ◌∷◌, Option, Some, None, IfSome, refl, sym, subst}
use Rattle.std.proofs.lemmas.List.Elements.{All-nil, All-cons, All-head, All-append, All-drop}
use Rattle.sqlx_pool_lists.specs.declared.steps.Idle.{Idle}
use Rattle.sqlx_pool_lists.specs.declared.steps.Start.{Start}
use Rattle.sqlx_pool_lists.specs.declared.steps.Start.TheVariants as start
use Rattle.sqlx_pool_lists.specs.declared.steps.AfterTest.{AfterTest}
use Rattle.sqlx_pool_lists.specs.declared.steps.AfterTest.TheVariants as tested
use Rattle.sqlx_pool_lists.specs.declared.steps.AfterConnect.{AfterConnect}
use Rattle.sqlx_pool_lists.specs.declared.steps.AfterConnect.TheVariants as connected
use Rattle.sqlx_pool_lists.specs.declared.options.PoolOptions.{PoolOptions}
use Rattle.sqlx_pool_lists.specs.declared.ticket.OwnedConn.{OwnedConn}
use Rattle.sqlx_pool_lists.specs.declared.steps.Lent.{Lent}
use Rattle.sqlx_pool_lists.specs.declared.steps.Given.{Given}
use Rattle.sqlx_pool_lists.specs.declared.steps.Given.TheVariants as given
use Rattle.sqlx_pool_marks.proofs.ListFacts.{All-filter_if}
use Rattle.sqlx_pool_marks.specs.EventTable.{closes}
use Rattle.sqlx_pool_lists.specs.Limits.{limits_of}
use Rattle.sqlx_pool_lists.specs.Core.{Core}
use Rattle.sqlx_pool_lists.specs.Edits.{is_another_idle, at_moment, asked}
use Rattle.sqlx_pool_lists.specs.MaintenanceSteps.{placed, reaped, done, done_at, placed_back, closed_from}
use Rattle.sqlx_pool_core.specs.ReturnSteps.{give_answer, core_after_give, released, leaked}
use Rattle.sqlx_pool_lists.specs.PollSteps.{started, after_test, after_connect, cancelled, after_try, after_serve, after_first, try_lent, lent_since}
use Rattle.sqlx_pool_parts.specs.State.{RestFlat}

-- The options are as they were, and idle connections still have no level open.
pub record Leaves {C : Type 0} (levels : C → ℕ) (old new : Core C) : Type 0 where
  pub options : new.options ≡ old.options
  pub rest : RestFlat levels old.idle → RestFlat levels new.idle

module _ {C : Type 0} (levels : C → ℕ) where
  pub leaves-along : (old mid new : Core C) → new ≡ mid → Leaves levels old mid → Leaves levels old new
  leaves-along old mid new e l = subst (Leaves levels old) (sym e) l

  pub start-leaves : (t m : ℕ) (answer : Start C) (core : Core C) → Leaves levels core (started t m answer core)
  start-leaves t m start.NotHeld core = record { options = refl; rest = λ r. r }
  start-leaves t m start.Closed core = record { options = refl; rest = λ r. r }
  start-leaves t m start.TimedOut core = record { options = refl; rest = λ r. r }
  start-leaves t m start.Exhausted core = record { options = refl; rest = λ r. r }
  start-leaves t m start.Waiting core = record { options = refl; rest = λ r. r }
  start-leaves t m (start.Backoff until) core = record { options = refl; rest = λ r. r }
  start-leaves t m (start.Test i) core = record { options = refl; rest = λ r. All-drop (λ (x : Idle C). levels x.lent.raw ≡ 0) 1 core.idle r }
  start-leaves t m start.Connect core = record { options = refl; rest = λ r. r }

  pub test-leaves : (k t : ℕ) (answer : AfterTest C) (core : Core C) → Leaves levels core (after_test k t answer core)
  test-leaves k t (tested.NotHeld verdict) core = record { options = refl; rest = λ r. r }
  test-leaves k t (tested.Closed raw) core = record { options = refl; rest = λ r. r }
  test-leaves k t (tested.Ready lent) core = record { options = refl; rest = λ r. r }
  test-leaves k t (tested.Test i) core = record { options = refl; rest = λ r. All-drop (λ (x : Idle C). levels x.lent.raw ≡ 0) 1 core.idle r }
  test-leaves k t tested.Connect core = record { options = refl; rest = λ r. r }

  pub connect-leaves : (k t m : ℕ) (answer : AfterConnect C) (core : Core C) → Leaves levels core (after_connect k t m answer core)
  connect-leaves k t m (connected.NotHeld tried) core = record { options = refl; rest = λ r. r }
  connect-leaves k t m (connected.Closed raw) core = record { options = refl; rest = λ r. r }
  connect-leaves k t m (connected.Ready lent) core = record { options = refl; rest = λ r. r }
  connect-leaves k t m (connected.Backoff until) core = record { options = refl; rest = λ r. r }
  connect-leaves k t m connected.Ended core = record { options = refl; rest = λ r. r }

  pub cancel-leaves : (t : ℕ) (answer : Bool) (core : Core C) → Leaves levels core (cancelled t answer core)
  cancel-leaves t true core = record { options = refl; rest = λ r. r }
  cancel-leaves t false core = record { options = refl; rest = λ r. r }

  pub give-leaves : (options : PoolOptions) (shut : Bool) (m : ℕ) (accepted : Bool) (h : Option OwnedConn) (lent : Lent C) (answer : Given C) (core : Core C)
      → answer ≡ give_answer options shut m accepted h lent → (accepted ≡ true → levels lent.raw ≡ 0) → Leaves levels core (core_after_give h lent m answer core)
  give-leaves options shut m accepted h lent (given.NotHeld raw) core is flat = record { options = refl; rest = λ r. r }
  give-leaves options shut m accepted h lent (given.Closed raw) core is flat = record { options = refl; rest = λ r. r }
  give-leaves options shut m accepted None lent given.Kept core is flat = record { options = refl; rest = λ r. r }
  give-leaves options shut m accepted (Some h) lent given.Kept core is flat =
      let may : levels lent.raw ≡ 0 = flat (taken accepted (closes (limits_of options) shut h.created.0 m) is) in
      record {
        options = refl;
        rest = λ r. All-append (λ (x : Idle C). levels x.lent.raw ≡ 0) core.idle ((record { lent = lent_since h.created lent; since = record { 0 = m } }) ∷ []) r
            (All-cons (λ (x : Idle C). levels x.lent.raw ≡ 0) (record { lent = lent_since h.created lent; since = record { 0 = m } }) [] may (All-nil (λ (x : Idle C). levels x.lent.raw ≡ 0)));
      }
    where
      taken : (a closes : Bool) → given.Kept ≡ cond (a && not closes) given.Kept (given.Closed lent.raw) → a ≡ true
      taken true closes e = refl
      taken false closes e = absurd cc

  pub released-leaves : (c : ℕ) (answer : Bool) (core : Core C) → Leaves levels core (released c answer core)
  released-leaves c true core = record { options = refl; rest = λ r. r }
  released-leaves c false core = record { options = refl; rest = λ r. r }

  pub leaked-leaves : (c : ℕ) (answer : Bool) (core : Core C) → Leaves levels core (leaked c answer core)
  leaked-leaves c true core = record { options = refl; rest = λ r. r }
  leaked-leaves c false core = record { options = refl; rest = λ r. r }

  pub try-leaves : (k m : ℕ) (answer : Option (Lent C)) (core : Core C) → Leaves levels core (after_try k m answer core)
  try-leaves k m None core = record { options = refl; rest = λ r. r }
  try-leaves k m (Some lent) core = record { options = refl; rest = λ r. All-drop (λ (x : Idle C). levels x.lent.raw ≡ 0) 1 core.idle r }

  pub serve-leaves : (k m : ℕ) (answer : Option (Lent C)) (core : Core C) → Leaves levels core (after_serve k m answer core)
  serve-leaves k m None core = record { options = refl; rest = λ r. r }
  serve-leaves k m (Some lent) core = record { options = refl; rest = λ r. All-drop (λ (x : Idle C). levels x.lent.raw ≡ 0) 1 core.idle r }

  pub first-leaves : (k t m : ℕ) (answer : Option (Lent C)) (core : Core C) → Leaves levels core (after_first k t m answer core)
  first-leaves k t m None core = record { options = refl; rest = λ r. r }
  first-leaves k t m (Some lent) core = record { options = refl; rest = λ r. All-drop (λ (x : Idle C). levels x.lent.raw ≡ 0) 1 core.idle r }

  pub placed-leaves : (answer : Bool) (core : Core C) → Leaves levels core (placed answer core)
  placed-leaves true core = record { options = refl; rest = λ r. r }
  placed-leaves false core = record { options = refl; rest = λ r. r }

  pub reaped-leaves : (m : ℕ) (answer : Option (Idle C)) (core : Core C) → Leaves levels core (reaped m answer core)
  reaped-leaves m None core = record { options = refl; rest = λ r. r }
  reaped-leaves m (Some i) core = record { options = refl; rest = λ r. All-filter_if (λ (x : Idle C). levels x.lent.raw ≡ 0) (λ (x : Idle C). levels x.lent.raw ≡ 0) (is_another_idle i.lent.id) (λ x other flat. flat) core.idle r }

  pub done-leaves : (closed : Bool) (m : ℕ) (raw : Option C) (core : Core C) → IfSome raw (λ conn. levels conn ≡ 0) → Leaves levels core (done closed m raw core)
  done-leaves closed m raw core flat = by closed raw flat
    where
      by : (shut : Bool) (raw : Option C) → IfSome raw (λ conn. levels conn ≡ 0) → Leaves levels core (at_moment m (placed_back (done_at shut m raw core)))
      by true raw flat = record { options = refl; rest = λ r. r }
      by false None flat = record { options = refl; rest = λ r. r }
      by false (Some raw) flat = record {
        options = refl;
        rest = λ r. All-append (λ (x : Idle C). levels x.lent.raw ≡ 0) core.idle ((record { lent = record { id = core.next_conn; created = record { 0 = m }; raw = raw }; since = record { 0 = m } }) ∷ []) r
            (All-cons (λ (x : Idle C). levels x.lent.raw ≡ 0) (record { lent = record { id = core.next_conn; created = record { 0 = m }; raw = raw }; since = record { 0 = m } }) [] flat (All-nil (λ (x : Idle C). levels x.lent.raw ≡ 0)));
      }

  pub closed-leaves : (shut : Bool) (core : Core C) → Leaves levels core (closed_from shut core)
  closed-leaves true core = record { options = refl; rest = λ r. r }
  closed-leaves false core = record { options = refl; rest = λ r. All-nil (λ (x : Idle C). levels x.lent.raw ≡ 0) }

  pub asked-leaves : (m k deadline : ℕ) (core : Core C) → Leaves levels core (at_moment m (asked k deadline core))
  asked-leaves m k deadline core = record { options = refl; rest = λ r. r }

  -- the first of the idle has no level open either
  pub try-flat : (may : Bool) (idle : List (Idle C)) (lent : Lent C) → try_lent may idle ≡ Some lent → RestFlat levels idle → levels lent.raw ≡ 0
  try-flat true (i ∷ rest) lent e flat =
      let same : i.lent ≡ lent = cc in
      subst (λ (l : Lent C). levels l.raw ≡ 0) same (All-head (λ (x : Idle C). levels x.lent.raw ≡ 0) i rest flat)
  try-flat true [] lent e flat = absurd cc
  try-flat false idle lent e flat = absurd cc
