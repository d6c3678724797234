-- Reaping, the minimum and closing: what each step answers, the marks that it makes, and what it makes of the core.
use Rattle.std.specs.Prelude.{ℕ, ◌+◌, ◌-◌, Bool, true, false, ◌==◌, List, [], ◌∷◌, Option, Some, None, if◌then◌else◌, map, find, length, not, ◌&&◌, ◌^◌, min, nat_lt}
use Rattle.std.specs.List.{list_any}
use Rattle.sqlx_pool_lists.specs.Limits.{limits_of}
use Rattle.sqlx_pool_marks.specs.declared.mark.Mark.{Mark}
use Rattle.sqlx_pool_marks.specs.declared.mark.Mark.TheVariants.{Reaped, Opened, Kept, Closed, Shut}
use Rattle.sqlx_pool_lists.specs.declared.options.PoolOptions.{PoolOptions}
use Rattle.sqlx_pool_lists.specs.declared.steps.Idle.{Idle}
use Rattle.sqlx_pool_lists.specs.declared.steps.CloseState.{CloseState}
use Rattle.sqlx_pool_lists.specs.declared.steps.CloseState.TheVariants as state
use Rattle.sqlx_pool_marks.specs.Marks.{is_shut, loans_of, leaked_of, tickets_of}
use Rattle.sqlx_pool_lists.specs.Core.{Core, waiting, free, size}
use Rattle.sqlx_pool_marks.specs.EventTable.{is_reaped, may_open, lacking}
use Rattle.sqlx_pool_lists.specs.Edits.{without_idle, kept, opened, at_moment}

-- ---- reap

-- the number of an idle connection
abbrev pub idle_conn : {C : Type 0} → Idle C → ℕ
idle_conn i = i.lent.id

-- the idle connection is beyond a limit
abbrev pub is_reaped_at : {C : Type 0} → PoolOptions → ℕ → Idle C → Bool
is_reaped_at options m i = is_reaped (limits_of options) i.lent.created.0 i.since.0 m

-- the first idle connection that is beyond a limit, where reaping applies
abbrev pub reap_answer : {C : Type 0} → Bool → PoolOptions → ℕ → List (Idle C) → Option (Idle C)
reap_answer true options m idle = find (is_reaped_at options m) idle
reap_answer false options m idle = None

-- the marks of a reap
abbrev pub reap_marks : {C : Type 0} → Option (Idle C) → List Mark
reap_marks (Some i) = Reaped i.lent.id ∷ []
reap_marks None = []

-- the core after a reap
abbrev pub reaped : {C : Type 0} → ℕ → Option (Idle C) → Core C → Core C
reaped m (Some i) core = at_moment m (record core { idle = without_idle i.lent.id core.idle })
reaped m None core = core

-- the list without the first element that passes the test
abbrev pub without_first : {X : Type 0} → (X → Bool) → List X → List X
without_first test [] = []
without_first test (x ∷ xs) = if test x then xs else x ∷ without_first test xs

-- ---- the minimum

-- a place may be held for a connection up to this minimum, where the line lets one pass
abbrev pub has_place_if : {C : Type 0} → Bool → ℕ → Core C → Bool
has_place_if passes minimum core = passes && nat_lt (size core) (min minimum core.options.max_connections) && not (nat_lt (2 ^ 63) core.next_conn)

-- a place may be held for a connection up to this minimum
abbrev pub has_place : {C : Type 0} → ℕ → Core C → Bool
has_place minimum core = may_open core.shut (waiting core.tickets) (free core) (size core) minimum core.options.max_connections core.next_conn

-- how many connections the pool lacks of its minimum
abbrev pub lacks : {C : Type 0} → Core C → ℕ
lacks core = lacking core.shut (waiting core.tickets) (free core) (size core) core.options.min_connections core.options.max_connections core.next_conn

-- a place for the minimum is held
abbrev pub placed : {C : Type 0} → Bool → Core C → Core C
placed true core = record core { places = core.places + 1 }
placed false core = core

-- what comes back of a connection that was opened for the minimum
abbrev pub handed_back : {C : Type 0} → Bool → Option C → Option C
handed_back true raw = raw
handed_back false raw = None

-- the marks of a connection for the minimum that was opened, or not
abbrev pub done_marks : {C : Type 0} → Bool → ℕ → ℕ → Option C → List Mark
done_marks false n m (Some raw) = Opened n m ∷ Kept n m ∷ []
done_marks shut n m raw = []

-- a place for the minimum is given back
abbrev pub placed_back : {C : Type 0} → Core C → Core C
placed_back core = record core { places = core.places - 1 }

-- the new connection rests, unless the pool is closed
abbrev pub done_at : {C : Type 0} → Bool → ℕ → Option C → Core C → Core C
done_at false m (Some raw) core = opened (kept (record { id = core.next_conn; created = record { 0 = m }; raw = raw }) m core)
done_at shut m raw core = core

-- the core after a place was used or given up, where the pool counts as closed or not
abbrev pub done : {C : Type 0} → Bool → ℕ → Option C → Core C → Core C
done closed m raw core = at_moment m (placed_back (done_at closed m raw core))

-- ---- close

-- the mark of an idle connection that a close closes
abbrev pub closed_idle : {C : Type 0} → Idle C → Mark
closed_idle i = Closed i.lent.id

-- the marks of a close
abbrev pub close_marks : {C : Type 0} → Bool → List (Idle C) → List Mark
close_marks true idle = []
close_marks false idle = Shut ∷ map closed_idle idle

-- the pool is shut, and nothing of it is idle
abbrev pub closed : {C : Type 0} → Core C → Core C
closed core = record core { shut = true; closed = true; idle = [] }

-- the idle connections, all at the first close and none at a later one
abbrev pub close_answer : {C : Type 0} → Bool → List (Idle C) → List (Idle C)
close_answer true idle = []
close_answer false idle = idle

-- a later close changes nothing
abbrev pub closed_from : {C : Type 0} → Bool → Core C → Core C
closed_from true core = core
closed_from false core = closed core

-- ---- how far a pool is closed

-- by whether a close came, and how many connections are owned and leaked and how many tickets haven't ended
abbrev pub close_state : Bool → ℕ → ℕ → ℕ → CloseState
close_state false owned leaked tickets = state.NotShut
close_state true owned leaked tickets = if owned + leaked + tickets == 0 then state.Closed else state.Closing

-- how far a pool is closed behind these marks
abbrev pub close_state_of : List Mark → CloseState
close_state_of marks = close_state (list_any is_shut marks) (length (loans_of marks)) (leaked_of marks) (length (tickets_of marks))
