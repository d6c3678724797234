-- What the steps of calls over a family's lock do, from the state before to the one after.
use Rattle.std.specs.Prelude.{◌≡◌, ◌⊎◌, ◌≤◌, ℕ, Bool, false, List, ◌++◌, ◌∷◌, [], Option, None, is_some, length, if◌then◌else◌}
use Rattle.sqlx_text.specs.declared.Moment.{Moment}
use Rattle.sqlx_pool_marks.specs.declared.mark.Mark.{Mark}
use Rattle.sqlx_pool_lists.specs.declared.options.PoolOptions.{PoolOptions}
use Rattle.sqlx_pool_lists.specs.declared.steps.AfterConnect.{AfterConnect}
use Rattle.sqlx_pool_lists.specs.declared.steps.AfterConnect.TheVariants as connected
use Rattle.sqlx_pool_lists.specs.declared.steps.AfterTest.{AfterTest}
use Rattle.sqlx_pool_lists.specs.declared.steps.AfterTest.TheVariants as tested
use Rattle.sqlx_pool_lists.specs.declared.steps.Given.{Given}
use Rattle.sqlx_pool_lists.specs.declared.steps.Given.TheVariants as given
use Rattle.sqlx_pool_lists.specs.declared.steps.Idle.{Idle}
use Rattle.sqlx_pool_lists.specs.declared.steps.Lent.{Lent}
use Rattle.sqlx_pool_lists.specs.declared.steps.Start.{Start}
use Rattle.sqlx_pool_lists.specs.declared.steps.Start.TheVariants as begun
use Rattle.sqlx_pool_lists.specs.declared.steps.Tried.{Tried}
use Rattle.sqlx_pool_lists.specs.declared.steps.Verdict.{Verdict}
use Rattle.sqlx_pool_lists.specs.Core.{Core, loan_of, ticket_of}
use Rattle.sqlx_pool_lists.specs.MaintenanceSteps.{close_marks, closed_from, has_place_if, placed, reap_marks, reaped}
use Rattle.sqlx_pool_lists.specs.PollSteps.{after_connect, after_test, asked_marks, cancel_marks, cancelled, connect_answer, connect_marks, judged, may_cancel, phase_for, start_marks, test_marks, try_marks, verdict_answer}
use Rattle.sqlx_pool_core.specs.Logs.{moment_of}
use Rattle.sqlx_pool_core.specs.ReturnSteps.{detach_marks, end_marks, give_answer, give_marks, leak_marks, leaked, released}
use Rattle.sqlx_pool_parts.specs.State.{no_start}
use Rattle.sqlx_pool.specs.Places.{back_if, holds_place}
use Rattle.sqlx_family.specs.Pools.{Pools, pool_in, with_child, with_pool}
use Rattle.sqlx_family.specs.Permits.{retiring, settled, stepped}
use Rattle.sqlx_family.specs.RootLine.{passes_in}
use Rattle.sqlx_family_steps.specs.FamilyCut.{cut_in}
use Rattle.sqlx_family_steps.specs.FamilySteps.{core_after_ask, core_after_return, family_after_start, family_after_try, start_answer_in, try_lent_in}
use Rattle.sqlx_family_pool.specs.FamilyPlaces.{family_after_done, marks_of_done}
use Rattle.sqlx_family_pool.specs.FamilyState.{FamilyState, IsNamed, IsUnnamed, cut_at, limited_at, log_of, with_made}
use Rattle.sqlx_family_pool.specs.Upkeep.{IsNextTicket, to_close_in, to_reap_in}

module _ {C O : Type 0} where
  -- the log of this pool went on, or was cut
  abbrev pub GoesOnIn : ℕ → FamilyState C O → FamilyState C O → Type 0
  GoesOnIn pool before after = ((more : List Mark) × (log_of after pool ≡ log_of before pool ++ more)) ⊎ (log_of after pool ≡ cut_in before.family.shared (log_of before pool))

  -- each pool's log went on, or was cut; no pool is gone, and some may have been added
  abbrev pub GoesOn : FamilyState C O → FamilyState C O → Type 0
  GoesOn before after = (length before.logs ≤ length after.logs) × ((pool : ℕ) → GoesOnIn pool before after)

  -- a client asked an open pool, and got this ticket, the family's next one
  pub record Asks (pool : ℕ) (now : Moment) (client ticket : ℕ) (before after : FamilyState C O) : Type 0 where
    pub next : IsNextTicket ticket before
    pub marks : let core = pool_in pool before.family in after.logs ≡ with_made pool (asked_marks core client (moment_of core now) ticket) before.logs
    pub becomes : let core = pool_in pool before.family in after.family ≡ with_pool pool (core_after_ask client (moment_of core now) core) before.family

  -- an ask was refused: no log has changed, and each pool is as it was, as its family sees it
  pub record RefusesAsk (pool : ℕ) (before after : FamilyState C O) : Type 0 where
    pub logs : after.logs ≡ before.logs
    pub family : (after.family ≡ before.family) ⊎ (after.family ≡ with_pool pool (pool_in pool before.family) before.family)

  -- a connection of a pool was lent past the line, or none; of a pool that nobody added none is
  pub record LendsPast (pool client : ℕ) (now : Moment) (lent : Option (Lent C)) (before after : FamilyState C O) : Type 0 where
    pub answer : IsNamed pool before → lent ≡ try_lent_in pool before.family
    pub marks : after.logs ≡ with_made pool (try_marks client lent) before.logs
    pub becomes : after.family ≡ family_after_try pool client (moment_of (pool_in pool before.family) now) lent before.family
    pub unnamed : IsUnnamed pool before → lent ≡ None

  -- a ticket of a pool ended, if it waited or was in backoff; a pool that nobody added has none
  pub record Cancels (pool client ticket : ℕ) (ended : Bool) (before after : FamilyState C O) : Type 0 where
    pub answer : IsNamed pool before → ended ≡ may_cancel (phase_for client ticket (pool_in pool before.family).tickets)
    pub marks : IsNamed pool before → after.logs ≡ with_made pool (cancel_marks ticket ended) before.logs
    pub becomes : IsNamed pool before → after.family ≡ stepped pool (cancelled ticket ended (pool_in pool before.family)) before.family
    pub unnamed : IsUnnamed pool before → (ended ≡ false) × (after ≡ before)

  -- a child of these options was added under this name
  pub record Adds (options : PoolOptions) (name : ℕ) (before after : FamilyState C O) : Type 0 where
    pub named : name ≡ length before.family.pools
    pub family : after.family ≡ with_child options before.family
    pub logs : after.logs ≡ before.logs ++ [] ∷ []
    pub starts : after.starts ≡ before.starts ++ no_start ∷ []

  -- a pool closed, and gave back these idle connections; one that nobody added gave none
  pub record Closes (pool : ℕ) (idle : List (Idle C)) (before after : FamilyState C O) : Type 0 where
    pub answer : IsNamed pool before → idle ≡ to_close_in pool before
    pub marks : IsNamed pool before → after.logs ≡ with_made pool (close_marks (pool_in pool before.family).shut idle) before.logs
    pub becomes : IsNamed pool before → let core = pool_in pool before.family in after.family ≡ with_pool pool (closed_from core.shut core) before.family
    pub unnamed : IsUnnamed pool before → (idle ≡ []) × (after ≡ before)

  -- a pool closed, and its free permits went to the root; it gave back these idle connections
  pub record Retires (pool : ℕ) (idle : List (Idle C)) (before after : FamilyState C O) : Type 0 where
    pub answer : IsNamed pool before → idle ≡ to_close_in pool before
    pub marks : IsNamed pool before → after.logs ≡ with_made pool (close_marks (pool_in pool before.family).shut idle) before.logs
    pub becomes : IsNamed pool before → let core = pool_in pool before.family in after.family ≡ settled pool (retiring pool (with_pool pool (closed_from core.shut core) before.family))
    pub unnamed : IsUnnamed pool before → (idle ≡ []) × (after ≡ before)

  -- a poll of a ticket of a pool began; a pool that nobody added has none
  pub record Starts (pool client ticket : ℕ) (now : Moment) (start : Start C) (before after : FamilyState C O) : Type 0 where
    pub answer : IsNamed pool before → start ≡ start_answer_in pool client ticket (moment_of (pool_in pool before.family) now) before.family
    pub marks : IsNamed pool before → after.logs ≡ with_made pool (start_marks ticket (phase_for client ticket (pool_in pool before.family).tickets) start) before.logs
    pub becomes : IsNamed pool before → after.family ≡ family_after_start pool client ticket (moment_of (pool_in pool before.family) now) start before.family
    pub unnamed : IsUnnamed pool before → (start ≡ begun.NotHeld) × (after ≡ before)

  -- a pool was told what the test of an idle connection came to
  pub record EndsTest (pool client ticket : ℕ) (verdict : Verdict C) (answered : AfterTest C) (before after : FamilyState C O) : Type 0 where
    pub answer : IsNamed pool before → let core = pool_in pool before.family in answered ≡ verdict_answer client ticket core.closed core verdict
    pub marks : IsNamed pool before → after.logs ≡ with_made pool (test_marks client ticket (judged verdict) answered) before.logs
    pub becomes : IsNamed pool before → after.family ≡ stepped pool (after_test client ticket answered (pool_in pool before.family)) before.family
    pub unnamed : IsUnnamed pool before → (answered ≡ tested.NotHeld verdict) × (after ≡ before)

  -- a pool was told what a try to open a connection came to
  pub record EndsTry (pool client ticket : ℕ) (now : Moment) (tried : Tried C) (answered : AfterConnect C) (before after : FamilyState C O) : Type 0 where
    pub answer : IsNamed pool before → let core = pool_in pool before.family in answered ≡ connect_answer (ticket_of client ticket core.tickets) core.closed core.next_conn (moment_of core now) tried
    pub marks : IsNamed pool before → after.logs ≡ with_made pool (connect_marks client ticket (moment_of (pool_in pool before.family) now) answered) before.logs
    pub becomes : IsNamed pool before → let core = pool_in pool before.family in after.family ≡ stepped pool (after_connect client ticket (moment_of core now) answered core) before.family
    pub unnamed : IsUnnamed pool before → (answered ≡ connected.NotHeld tried) × (after ≡ before)

  -- a connection was given back to its pool, accepted or not, and this became of it
  pub record Gives (pool client : ℕ) (lent : Lent C) (now : Moment) (accepted : Bool) (answered : Given C) (before after : FamilyState C O) : Type 0 where
    pub answer : IsNamed pool before → let core = pool_in pool before.family in answered ≡ give_answer core.options core.closed (moment_of core now) accepted (loan_of client lent.id core.held) lent
    pub marks : IsNamed pool before → after.logs ≡ with_made pool (give_marks lent.id (moment_of (pool_in pool before.family) now) answered) before.logs
    pub becomes : IsNamed pool before → let core = pool_in pool before.family in after.family ≡ stepped pool (core_after_return client lent (moment_of core now) answered core) before.family
    pub unnamed : IsUnnamed pool before → (answered ≡ given.NotHeld lent.raw) × (after ≡ before)

  -- a loan of a pool ended by these marks, if the client owned the connection, and the family became so
  pub record EndsLoan (marks_of : ℕ → Bool → List Mark) (family_of : ℕ → Core C → Pools C → Pools C) (core_of : ℕ → Bool → Core C → Core C) (pool client id : ℕ) (ended : Bool) (before after : FamilyState C O) : Type 0 where
    pub answer : IsNamed pool before → ended ≡ is_some (loan_of client id (pool_in pool before.family).held)
    pub marks : IsNamed pool before → after.logs ≡ with_made pool (marks_of id ended) before.logs
    pub becomes : IsNamed pool before → after.family ≡ family_of pool (core_of id ended (pool_in pool before.family)) before.family
    pub unnamed : IsUnnamed pool before → (ended ≡ false) × (after ≡ before)

  -- the client closes the connection
  abbrev pub ClosesLoan : ℕ → ℕ → ℕ → Bool → FamilyState C O → FamilyState C O → Type 0
  ClosesLoan = EndsLoan end_marks stepped released

  -- the connection left its pool, whose permit is free again
  abbrev pub Detaches : ℕ → ℕ → ℕ → Bool → FamilyState C O → FamilyState C O → Type 0
  Detaches = EndsLoan detach_marks stepped released

  -- the connection left its pool, which keeps its permit
  abbrev pub Leaks : ℕ → ℕ → ℕ → Bool → FamilyState C O → FamilyState C O → Type 0
  Leaks = EndsLoan leak_marks with_pool leaked

  -- this idle connection of a pool was taken to be closed, if one was to be
  pub record Reaps (pool : ℕ) (now : Moment) (idle : Option (Idle C)) (before after : FamilyState C O) : Type 0 where
    pub answer : IsNamed pool before → idle ≡ to_reap_in pool now before
    pub marks : IsNamed pool before → after.logs ≡ with_made pool (reap_marks idle) before.logs
    pub becomes : IsNamed pool before → let core = pool_in pool before.family in after.family ≡ with_pool pool (reaped (moment_of core now) idle core) before.family
    pub unnamed : IsUnnamed pool before → (idle ≡ None) × (after ≡ before)

  -- a place of a pool is held for a connection of so many, if one may be opened
  pub record HoldsPlace (pool least : ℕ) (place : Bool) (before after : FamilyState C O) : Type 0 where
    pub answer : IsNamed pool before → place ≡ has_place_if (passes_in pool before.family) least (pool_in pool before.family)
    pub becomes : IsNamed pool before → after.family ≡ with_pool pool (placed place (pool_in pool before.family)) before.family
    pub logs : after.logs ≡ before.logs
    pub unnamed : IsUnnamed pool before → (place ≡ false) × (after ≡ before)

  -- a place of a pool was used or given up, where one was held, and this came back
  pub record Fills (pool : ℕ) (now : Moment) (raw back : Option C) (before after : FamilyState C O) : Type 0 where
    pub answer : IsNamed pool before → let core = pool_in pool before.family in back ≡ back_if (holds_place core) core.closed raw
    pub marks : IsNamed pool before → let core = pool_in pool before.family in after.logs ≡ with_made pool (marks_of_done core (moment_of core now) raw) before.logs
    pub becomes : IsNamed pool before → let core = pool_in pool before.family in after.family ≡ family_after_done (holds_place core) pool (moment_of core now) raw before.family
    pub unnamed : IsUnnamed pool before → (back ≡ raw) × (after ≡ before)

  -- the log of a pool was cut, if so
  pub record CutsIf (pool : ℕ) (cut : Bool) (before after : FamilyState C O) : Type 0 where
    pub becomes : IsNamed pool before → after ≡ (if cut then cut_at pool before else before)
    pub unnamed : IsUnnamed pool before → after ≡ before

  -- the log of a pool got this limit, or none
  pub record Limits (pool : ℕ) (limit : Option ℕ) (before after : FamilyState C O) : Type 0 where
    pub becomes : IsNamed pool before → after ≡ limited_at pool limit before
    pub unnamed : IsUnnamed pool before → after ≡ before

  -- neither a log nor the family changed
  pub record Keeps (before after : FamilyState C O) : Type 0 where
    pub family : after.family ≡ before.family
    pub logs : after.logs ≡ before.logs
    pub starts : after.starts ≡ before.starts
