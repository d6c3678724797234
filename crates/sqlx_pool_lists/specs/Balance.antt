-- What a step does to the counts of a core, and how many marks are still due.
use Rattle.std.specs.Prelude.{ℕ, ◌≡◌, ◌+◌, ◌-◌, ◌*◌, ◌^◌, ◌<◌, ◌≤◌, Bool, true, false, List, Option, Some, None, if◌then◌else◌, count_by, sum_by, length}
use Rattle.sqlx_pool_marks.specs.declared.mark.Mark.{Mark}
use Rattle.sqlx_pool_marks.specs.declared.mark.Mark.TheVariants.{Asked, Lent, Ended}
use Rattle.sqlx_pool_lists.specs.declared.ticket.Ticket.{Ticket}
use Rattle.sqlx_pool_lists.specs.declared.ticket.Phase.{Phase}
use Rattle.sqlx_pool_lists.specs.declared.ticket.Phase.TheVariants as phase
use Rattle.sqlx_pool_lists.specs.declared.steps.Lent.{Lent as LentValue}
use Rattle.sqlx_pool_lists.specs.declared.steps.Given.{Given}
use Rattle.sqlx_pool_lists.specs.declared.steps.Given.TheVariants as given
use Rattle.sqlx_pool_lists.specs.Core.{Core, waiting, gone, size}

-- ---- counts of marks

-- the mark asks a ticket
abbrev pub is_asked : Mark → Bool
is_asked (Asked t k d) = true
is_asked m = false

-- the mark ends a ticket
abbrev pub is_ended : Mark → Bool
is_ended (Ended t) = true
is_ended m = false

-- the mark lends a connection
abbrev pub is_lent : Mark → Bool
is_lent (Lent k c) = true
is_lent m = false

-- how many tickets these marks ask, how many they end, and how many loans they make
abbrev pub asks : List Mark → ℕ
asks marks = count_by is_asked marks

-- how many tickets these marks end
abbrev pub ends : List Mark → ℕ
ends marks = count_by is_ended marks

-- how many loans these marks make
abbrev pub lents : List Mark → ℕ
lents marks = count_by is_lent marks

-- ---- marks still due

-- a connection is under test
abbrev pub tests_one : Phase → Bool
tests_one (phase.Testing c created before) = true
tests_one phase = false

-- the ticket has a connection under test
abbrev pub is_testing : Ticket → Bool
is_testing x = tests_one x.phase

-- how many tickets have a connection under test
abbrev pub testing : List Ticket → ℕ
testing tickets = count_by is_testing tickets

-- how many idle connections more may be tested in a poll of a ticket in this phase, if each is refused
abbrev pub tests_left : ℕ → Phase → ℕ
tests_left tries phase.Waiting = tries - 1
tests_left tries (phase.Testing c created before) = tries - (before + 1)
tests_left tries phase = 0

-- how many more may be tested for this ticket
abbrev pub left_to_test : ℕ → Ticket → ℕ
left_to_test tries x = tests_left tries x.phase

-- how many more may be tested for all tickets
abbrev pub all_left_to_test : ℕ → List Ticket → ℕ
all_left_to_test tries tickets = sum_by (left_to_test tries) tickets

-- At most so many marks are made before the pool is closed and empty, where no ticket is asked, none is lent past the line and no place is held any more:
-- eight for a ticket that waits, seven for one whose connection is under test, six for another, and two for each test that it may have yet;
-- two for a loan, one for an idle connection, three for a place, one for the close.
abbrev pub marks_due : {C : Type 0} → Core C → ℕ
marks_due core = 6 * length core.tickets + 2 * waiting core.tickets + testing core.tickets + 2 * all_left_to_test core.options.idle_tries core.tickets
    + 2 * length core.held + length core.idle + 3 * core.places + (if core.shut then 0 else 1)

-- ---- steps

-- A step that makes these marks, ends so many loans, and adds so many at most to what is due.
pub record Balance {C : Type 0} (old new : Core C) (made : List Mark) (backs room : ℕ) : Type 0 where
  pub tickets : length new.tickets + ends made ≡ length old.tickets + asks made
  pub numbers : new.next_ticket ≡ old.next_ticket + asks made
  pub held : length new.held + backs ≡ length old.held + lents made
  pub paid : marks_due new + length made ≤ marks_due old + room

-- the loans that a step ends which tells so by its answer
abbrev pub one_if : Bool → ℕ
one_if done = if done then 1 else 0

-- how many loans a return ends
abbrev pub given_back : {C : Type 0} → Given C → ℕ
given_back given.Kept = 1
given_back (given.Closed raw) = 1
given_back (given.NotHeld raw) = 0

-- what an ask adds to what is due, and its own mark, where a poll tests so many connections at most
abbrev pub ask_room : ℕ → ℕ
ask_room tries = 7 + 2 * tries

-- what a try adds
abbrev pub try_room : {C : Type 0} → Option (LentValue C) → ℕ
try_room (Some lent) = 4
try_room None = 0

-- what an ask that is served at once adds
abbrev pub serve_room : {C : Type 0} → Option (LentValue C) → ℕ
serve_room (Some lent) = 6
serve_room None = 0

-- what a place adds
abbrev pub place_room : Bool → ℕ
place_room held = if held then 3 else 0

-- ---- bounds

-- The pool keeps its maximum, and its numbers have a bound.
pub record IsBounded {C : Type 0} (core : Core C) : Type 0 where
  pub some : 1 ≤ core.options.max_connections
  pub few : core.options.max_connections < 2 ^ 32
  pub within : size core ≤ core.options.max_connections
  pub few_tickets : core.next_ticket ≤ 2 ^ 63 + 1
  pub few_conns : core.next_conn + gone core.tickets + core.places ≤ 2 ^ 63 + 1 + core.options.max_connections
