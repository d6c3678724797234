-- What the steps of calls over a pool's lock do, from the state before to the one after.
use Rattle.std.specs.Prelude.{◌≡◌, ◌⊎◌, ℕ, ◌+◌, Bool, true, List, ◌++◌, ◌∷◌, [], Option, Some, is_some, IfSome, map, option_map, if◌then◌else◌}
use Rattle.std.specs.List.{list_any}
use Rattle.sqlx_text.specs.declared.Moment.{Moment}
use Rattle.sqlx_pool_marks.specs.declared.mark.Mark.{Mark}
use Rattle.sqlx_pool_marks.specs.declared.mark.Mark.TheVariants.{Asked}
use Rattle.sqlx_pool_marks.specs.Answers.{lent_past_at, owns}
use Rattle.sqlx_pool_marks.specs.Cut.{cut_of}
use Rattle.sqlx_pool_marks.specs.EventTable.{closed_at, has_place_at, may_pass}
use Rattle.sqlx_pool_marks.specs.Marks.{is_shut, next_conn, owner_of}
use Rattle.sqlx_pool_lists.specs.declared.steps.AfterConnect.{AfterConnect}
use Rattle.sqlx_pool_lists.specs.declared.steps.AfterTest.{AfterTest}
use Rattle.sqlx_pool_lists.specs.declared.steps.Idle.{Idle}
use Rattle.sqlx_pool_lists.specs.declared.steps.Lent.{Lent}
use Rattle.sqlx_pool_lists.specs.declared.steps.Start.{Start}
use Rattle.sqlx_pool_lists.specs.declared.steps.Tried.{Tried}
use Rattle.sqlx_pool_lists.specs.declared.steps.Verdict.{Verdict}
use Rattle.sqlx_pool_lists.specs.declared.steps.Given.{Given}
use Rattle.sqlx_pool_lists.specs.Core.{Core, free, loan_of, ticket_of, waiting}
use Rattle.sqlx_pool_lists.specs.Edits.{at_moment, asked}
use Rattle.sqlx_pool_lists.specs.Makes.{Makes}
use Rattle.sqlx_pool_lists.specs.StandsFor.{StandsFor}
use Rattle.sqlx_pool_lists.specs.MaintenanceSteps.{idle_conn, reap_answer, reap_marks, reaped, placed, close_marks, closed_from}
use Rattle.sqlx_pool_lists.specs.Limits.{limits_of}
use Rattle.sqlx_pool_lists.specs.PollSteps.{phase_for, judged, start_answer, start_marks, started, test_marks, after_test, connect_answer, connect_marks, after_connect, may_cancel, cancel_marks, cancelled, try_lent, try_marks, after_try, first_marks, after_first, serve_marks, after_serve}
use Rattle.sqlx_pool_lists.specs.PollTable.{phase_turn}
use Rattle.sqlx_pool_core.specs.Answers.{lent_conn, ServesFirst}
use Rattle.sqlx_pool_core.specs.Logs.{moment_of}
use Rattle.sqlx_pool_core.specs.ReturnSteps.{give_answer, give_marks, core_after_give, end_marks, detach_marks, leak_marks, released, leaked}
use Rattle.sqlx_pool_parts.specs.Answers.{IsNextTicket, test_answer_in}
use Rattle.sqlx_pool_parts.specs.State.{PoolState}
use Rattle.sqlx_pool.specs.Places.{holds_place, done_if, done_if_marks, back_if}
use Rattle.sqlx_pool.specs.Upkeep.{to_reap}

-- whatever marks the core stood for, it stands for them with these behind, where there is an answer
abbrev pub LogsIf : {C T : Type 0} → Option T → Core C → (T → List Mark) → Core C → Type 0
LogsIf answer old made new = (marks : List Mark) → StandsFor old marks → IfSome answer (λ x. Makes old.options.max_connections marks (made x) new)

-- the line lets one pass
abbrev pub passes : {C : Type 0} → Core C → Bool
passes core = may_pass core.shut (waiting core.tickets) (free core)

module _ {C O : Type 0} where
  -- the log went on, or was cut
  abbrev pub GoesOn : PoolState C O → PoolState C O → Type 0
  GoesOn before after = ((more : List Mark) × (after.marks ≡ before.marks ++ more)) ⊎ (after.marks ≡ cut_of before.marks)

  -- when a ticket that is asked for now has no time left
  abbrev pub deadline_at : PoolState C O → Moment → ℕ
  deadline_at state now = moment_of state.core now + state.core.options.acquire_timeout

  -- a client asked, and got this ticket, the next one of an open pool
  pub record Asks (now : Moment) (client ticket : ℕ) (before after : PoolState C O) : Type 0 where
    pub next : IsNextTicket ticket before
    pub marks : after.marks ≡ before.marks ++ Asked ticket client (deadline_at before now) ∷ []
    pub becomes : after.core ≡ at_moment (moment_of before.core now) (asked client (deadline_at before now) before.core)

  -- a connection was lent past the line, or none
  pub record LendsPast (max client : ℕ) (now : Moment) (lent : Option (Lent C)) (before after : PoolState C O) : Type 0 where
    pub answer : option_map lent_conn lent ≡ lent_past_at max before.core.places before.marks
    pub first : lent ≡ try_lent (passes before.core) before.core.idle
    pub marks : after.marks ≡ before.marks ++ try_marks client lent
    pub becomes : after.core ≡ after_try client (moment_of before.core now) lent before.core

  -- a poll began, by the poll table
  pub record Starts (max client ticket : ℕ) (now : Moment) (start : Start C) (before after : PoolState C O) : Type 0 where
    pub answer : start ≡ start_answer (phase_turn max before.core.places before.marks client ticket (moment_of before.core now) (phase_for client ticket before.core.tickets)) before.core.idle
    pub marks : after.marks ≡ before.marks ++ start_marks ticket (phase_for client ticket before.core.tickets) start
    pub becomes : after.core ≡ started ticket (moment_of before.core now) start before.core

  -- the first of all tickets, which waited, was lent the first idle connection at once, or nothing was done
  pub record ServesPolled (client ticket : ℕ) (now : Moment) (lent : Option (Lent C)) (before after : PoolState C O) : Type 0 where
    pub serves : is_some lent ≡ true → ServesFirst client ticket (moment_of before.core now) before.core
    pub first : IfSome lent (λ l. Some l ≡ try_lent true before.core.idle)
    pub marks : after.marks ≡ before.marks ++ first_marks client ticket lent
    pub becomes : after.core ≡ after_first client ticket (moment_of before.core now) lent before.core

  -- the pool was told what the test of an idle connection came to
  pub record EndsTest (client ticket : ℕ) (verdict : Verdict C) (answer : AfterTest C) (before after : PoolState C O) : Type 0 where
    pub answers : answer ≡ test_answer_in before verdict (phase_for client ticket before.core.tickets)
    pub marks : after.marks ≡ before.marks ++ test_marks client ticket (judged verdict) answer
    pub becomes : after.core ≡ after_test client ticket answer before.core

  -- the pool was told what a try to open a connection came to
  pub record EndsTry (client ticket : ℕ) (now : Moment) (tried : Tried C) (answer : AfterConnect C) (before after : PoolState C O) : Type 0 where
    pub answers : answer ≡ connect_answer (ticket_of client ticket before.core.tickets) (list_any is_shut before.marks) (next_conn before.marks) (moment_of before.core now) tried
    pub marks : after.marks ≡ before.marks ++ connect_marks client ticket (moment_of before.core now) answer
    pub becomes : after.core ≡ after_connect client ticket (moment_of before.core now) answer before.core

  -- an ask was served at once with the first idle connection, or none was
  pub record ServesNew (now : Moment) (client : ℕ) (lent : Option (Lent C)) (before after : PoolState C O) : Type 0 where
    pub first : IfSome lent (λ l. Some l ≡ try_lent true before.core.idle)
    pub marks : after.marks ≡ before.marks ++ serve_marks client before.core.next_ticket (deadline_at before now) lent
    pub becomes : after.core ≡ after_serve client (moment_of before.core now) lent before.core

  -- a ticket ended, if it waited or was in backoff
  pub record Cancels (client ticket : ℕ) (ended : Bool) (before after : PoolState C O) : Type 0 where
    pub answer : ended ≡ may_cancel (phase_for client ticket before.core.tickets)
    pub marks : after.marks ≡ before.marks ++ cancel_marks ticket ended
    pub becomes : after.core ≡ cancelled ticket ended before.core

  -- a connection was given back, accepted or not, and this became of it
  pub record Gives (client : ℕ) (lent : Lent C) (now : Moment) (accepted : Bool) (given : Given C) (before after : PoolState C O) : Type 0 where
    pub answer : given ≡ give_answer before.core.options before.core.shut (moment_of before.core now) accepted (loan_of client lent.id before.core.held) lent
    pub marks : after.marks ≡ before.marks ++ give_marks lent.id (moment_of before.core now) given
    pub becomes : after.core ≡ core_after_give (loan_of client lent.id before.core.held) lent (moment_of before.core now) given before.core

  -- a loan ended by these marks, if the client owned the connection, and the core became so
  pub record EndsLoan (marks_of : ℕ → Bool → List Mark) (core_of : ℕ → Bool → Core C → Core C) (client id : ℕ) (ended : Bool) (before after : PoolState C O) : Type 0 where
    pub answer : ended ≡ owns client (owner_of id before.marks)
    pub marks : after.marks ≡ before.marks ++ marks_of id ended
    pub becomes : after.core ≡ core_of id ended before.core

  -- the client closes the connection
  abbrev pub ClosesLoan : ℕ → ℕ → Bool → PoolState C O → PoolState C O → Type 0
  ClosesLoan = EndsLoan end_marks released

  -- the connection left the pool, whose place and permit are free again
  abbrev pub Detaches : ℕ → ℕ → Bool → PoolState C O → PoolState C O → Type 0
  Detaches = EndsLoan detach_marks released

  -- the connection left the pool, which keeps its place and its permit
  abbrev pub Leaks : ℕ → ℕ → Bool → PoolState C O → PoolState C O → Type 0
  Leaks = EndsLoan leak_marks leaked

  -- this idle connection was taken to be closed, if one was to be
  pub record Reaps (now : Moment) (idle : Option (Idle C)) (before after : PoolState C O) : Type 0 where
    pub answer : option_map idle_conn idle ≡ to_reap now before
    pub first : idle ≡ reap_answer (passes before.core) before.core.options (moment_of before.core now) before.core.idle
    pub marks : after.marks ≡ before.marks ++ reap_marks idle
    pub becomes : after.core ≡ reaped (moment_of before.core now) idle before.core

  -- a place is held for a connection of so many, if one may be opened
  pub record HoldsPlace (least : ℕ) (place : Bool) (before after : PoolState C O) : Type 0 where
    pub answer : place ≡ has_place_at (limits_of before.core.options) before.core.places before.marks least
    pub marks : after.marks ≡ before.marks
    pub becomes : after.core ≡ placed place before.core

  -- a place was used or given up, where one was held, and this came back
  pub record Fills (now : Moment) (raw back : Option C) (before after : PoolState C O) : Type 0 where
    pub answer : back ≡ back_if (holds_place before.core) (list_any is_shut before.marks) raw
    pub marks : after.marks ≡ before.marks ++ done_if_marks (holds_place before.core) (list_any is_shut before.marks) (next_conn before.marks) (moment_of before.core now) raw
    pub becomes : after.core ≡ done_if (holds_place before.core) (moment_of before.core now) raw before.core

  -- the log was cut, if so
  pub record CutsIf (cut : Bool) (before after : PoolState C O) : Type 0 where
    pub marks : after.marks ≡ (if cut then cut_of before.marks else before.marks)
    pub core : after.core ≡ before.core

  -- neither the log nor the core changed
  pub record Keeps (before after : PoolState C O) : Type 0 where
    pub marks : after.marks ≡ before.marks
    pub core : after.core ≡ before.core

  -- the pool closed, and gave back these idle connections
  pub record Closes (idle : List (Idle C)) (before after : PoolState C O) : Type 0 where
    pub answer : map idle_conn idle ≡ closed_at before.marks
    pub marks : after.marks ≡ before.marks ++ close_marks (list_any is_shut before.marks) idle
    pub becomes : after.core ≡ closed_from before.core.shut before.core
    pub closed : after.core.shut ≡ true
