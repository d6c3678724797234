-- The steps of a poll, of a cancel and of a try: what each answers, the marks that it makes, and what it makes of the core.
use Rattle.std.specs.Prelude.{ℕ, ◌+◌, Bool, true, false, ◌==◌, List, [], ◌∷◌, Option, Some, None, if◌then◌else◌, nat_lt, option_map}
use Rattle.sqlx_text.specs.declared.Moment.{Moment}
use Rattle.sqlx_pool_marks.specs.declared.mark.Mark.{Mark}
use Rattle.sqlx_pool_marks.specs.declared.mark.Mark.TheVariants.{Asked, Left, Taken, Opened, Lent, Closed, Ended}
use Rattle.sqlx_pool_lists.specs.declared.ticket.Ticket.{Ticket}
use Rattle.sqlx_pool_lists.specs.declared.ticket.Phase.{Phase}
use Rattle.sqlx_pool_lists.specs.declared.ticket.Phase.TheVariants as phase
use Rattle.sqlx_pool_marks.specs.declared.turn.Turn.{Turn}
use Rattle.sqlx_pool_marks.specs.declared.turn.Turn.TheVariants as turn
use Rattle.sqlx_pool_lists.specs.declared.steps.Lent.{Lent as LentValue}
use Rattle.sqlx_pool_lists.specs.declared.steps.Idle.{Idle}
use Rattle.sqlx_pool_lists.specs.declared.steps.Start.{Start}
use Rattle.sqlx_pool_lists.specs.declared.steps.Start.TheVariants as start
use Rattle.sqlx_pool_lists.specs.declared.steps.Verdict.{Verdict}
use Rattle.sqlx_pool_lists.specs.declared.steps.Verdict.TheVariants as verdict
use Rattle.sqlx_pool_lists.specs.declared.steps.AfterTest.{AfterTest}
use Rattle.sqlx_pool_lists.specs.declared.steps.AfterTest.TheVariants as tested
use Rattle.sqlx_pool_lists.specs.declared.steps.Tried.{Tried}
use Rattle.sqlx_pool_lists.specs.declared.steps.Tried.TheVariants as tried
use Rattle.sqlx_pool_lists.specs.declared.steps.AfterConnect.{AfterConnect}
use Rattle.sqlx_pool_lists.specs.declared.steps.AfterConnect.TheVariants as connected
use Rattle.sqlx_pool_lists.specs.Core.{Core, ticket_of}
use Rattle.sqlx_pool_marks.specs.Backoff.{cap, next_wait}
use Rattle.sqlx_pool_lists.specs.Edits.{with_ticket, to_test, tested_so_far, to_next, to_try, to_connect, to_back_off, core_without_ticket, lent_to, core_without_first, opened, at_moment}

-- the mark of an ask of this moment
abbrev pub asked_marks : {C : Type 0} → Core C → ℕ → ℕ → ℕ → List Mark
asked_marks core k moment t = Asked t k (moment + core.options.acquire_timeout) ∷ []

-- the phase of this client's ticket
abbrev pub phase_for : ℕ → ℕ → List Ticket → Option Phase
phase_for k t tickets = option_map (λ (x : Ticket). x.phase) (ticket_of k t tickets)

-- the ticket stands in the line
abbrev pub is_in_line : Option Phase → Bool
is_in_line (Some phase.Waiting) = true
is_in_line other = false

-- ---- start

-- the answer of a turn
abbrev pub start_answer : {C : Type 0} → Turn → List (Idle C) → Start C
start_answer turn.NotHeld idle = start.NotHeld
start_answer turn.Closed idle = start.Closed
start_answer turn.TimedOut idle = start.TimedOut
start_answer turn.Exhausted idle = start.Exhausted
start_answer turn.Waiting idle = start.Waiting
start_answer (turn.Backoff until) idle = start.Backoff until
start_answer turn.Test (i ∷ rest) = start.Test i
start_answer turn.Test [] = start.Connect
start_answer turn.Connect idle = start.Connect

-- a ticket that waited leaves the line before what follows
abbrev pub leaving : ℕ → Option Phase → List Mark → List Mark
leaving t (Some phase.Waiting) later = Left t ∷ later
leaving t other later = later

-- the marks of the start of a poll
abbrev pub start_marks : {C : Type 0} → ℕ → Option Phase → Start C → List Mark
start_marks t phase start.Closed = Ended t ∷ []
start_marks t phase start.TimedOut = Ended t ∷ []
start_marks t phase start.Exhausted = leaving t phase (Ended t ∷ [])
start_marks t phase (start.Test i) = Left t ∷ Taken i.lent.id ∷ []
start_marks t phase start.Connect = leaving t phase []
start_marks t phase other = []

-- the core after the start of a poll
abbrev pub started : {C : Type 0} → ℕ → ℕ → Start C → Core C → Core C
started t m start.Closed core = at_moment m (core_without_ticket t core)
started t m start.TimedOut core = at_moment m (core_without_ticket t core)
started t m start.Exhausted core = at_moment m (core_without_ticket t core)
started t m (start.Test i) core = at_moment m (core_without_first (record core { tickets = with_ticket t (to_test m i) core.tickets }))
started t m start.Connect core = at_moment m (record core { tickets = with_ticket t (to_try m) core.tickets })
started t m other core = core

-- ---- finish_test

-- the number that the verdict names
abbrev pub judged : {C : Type 0} → Verdict C → ℕ
judged (verdict.Accepted lent) = lent.id
judged (verdict.Refused c) = c

-- when the connection under test was opened, where it is this one
abbrev pub tested_at : ℕ → Option Phase → Option Moment
tested_at c (Some (phase.Testing d created before)) = if c == d then Some created else None
tested_at c other = None

-- the connection of an accepting verdict
abbrev pub accepted_raw : {C : Type 0} → Verdict C → Option C
accepted_raw (verdict.Accepted lent) = Some lent.raw
accepted_raw (verdict.Refused c) = None

-- the connection with the moment of opening that the pool keeps
abbrev pub lent_since : {C : Type 0} → Moment → LentValue C → LentValue C
lent_since created lent = record lent { created = created }

-- after a refusal one more idle connection may be tested in this poll, of so many at most
abbrev pub may_test_next : ℕ → Option Phase → Bool
may_test_next tries (Some phase) = nat_lt (tested_so_far phase) tries
may_test_next tries None = false

-- what follows a refused test: the first idle connection is tested, where that may be and one is idle
abbrev pub after_refusal : {C : Type 0} → Bool → List (Idle C) → AfterTest C
after_refusal true (i ∷ rest) = tested.Test i
after_refusal next idle = tested.Connect

-- the answer to a test
abbrev pub test_answer : {C : Type 0} → Option Moment → Bool → Bool → List (Idle C) → Verdict C → AfterTest C
test_answer None shut next idle verdict = tested.NotHeld verdict
test_answer (Some created) true next idle verdict = tested.Closed (accepted_raw verdict)
test_answer (Some created) false next idle (verdict.Accepted lent) = tested.Ready (lent_since created lent)
test_answer (Some created) false next idle (verdict.Refused c) = after_refusal next idle

-- what a verdict comes to for a client's ticket, in a pool that counts as closed or not
abbrev pub verdict_answer : {C : Type 0} → ℕ → ℕ → Bool → Core C → Verdict C → AfterTest C
verdict_answer k t closed core verdict = test_answer (tested_at (judged verdict) (phase_for k t core.tickets)) closed (may_test_next core.options.idle_tries (phase_for k t core.tickets)) core.idle verdict

-- the marks of a test
abbrev pub test_marks : {C : Type 0} → ℕ → ℕ → ℕ → AfterTest C → List Mark
test_marks k t c (tested.NotHeld verdict) = []
test_marks k t c (tested.Closed raw) = Closed c ∷ Ended t ∷ []
test_marks k t c (tested.Ready lent) = Lent k c ∷ Ended t ∷ []
test_marks k t c (tested.Test i) = Closed c ∷ Taken i.lent.id ∷ []
test_marks k t c tested.Connect = Closed c ∷ []

-- the core after a test
abbrev pub after_test : {C : Type 0} → ℕ → ℕ → AfterTest C → Core C → Core C
after_test k t (tested.NotHeld verdict) core = core
after_test k t (tested.Closed raw) core = core_without_ticket t core
after_test k t (tested.Ready lent) core = core_without_ticket t (lent_to k lent.id lent.created core)
after_test k t (tested.Test i) core = core_without_first (record core { tickets = with_ticket t (to_next i) core.tickets })
after_test k t tested.Connect core = record core { tickets = with_ticket t to_connect core.tickets }

-- ---- finish_connect

-- the connection that a try opened
abbrev pub opened_raw : {C : Type 0} → Tried C → Option C
opened_raw (tried.Opened raw) = Some raw
opened_raw other = None

-- the wait that a refused try brings this ticket
abbrev pub wait_of : Ticket → ℕ
wait_of x = next_wait (cap x.deadline x.first_try.0) x.last_wait

-- a connecting ticket's answer; n is the next number
abbrev pub try_answer : {C : Type 0} → Ticket → ℕ → ℕ → Tried C → AfterConnect C
try_answer x n m (tried.Opened raw) = connected.Ready (record { id = n; created = record { 0 = m }; raw = raw })
try_answer x n m tried.Rejected = connected.Backoff (m + wait_of x)
try_answer x n m tried.Transient = connected.Backoff (m + wait_of x)
try_answer x n m tried.Fatal = connected.Ended

-- the answer to a try of a ticket in this phase
abbrev pub try_answer_at : {C : Type 0} → Phase → Ticket → Bool → ℕ → ℕ → Tried C → AfterConnect C
try_answer_at phase.Connecting x true n m tried = connected.Closed (opened_raw tried)
try_answer_at phase.Connecting x false n m tried = try_answer x n m tried
try_answer_at other x shut n m tried = connected.NotHeld tried

-- the answer to a try
abbrev pub connect_answer : {C : Type 0} → Option Ticket → Bool → ℕ → ℕ → Tried C → AfterConnect C
connect_answer (Some x) shut n m tried = try_answer_at x.phase x shut n m tried
connect_answer None shut n m tried = connected.NotHeld tried

-- the marks of a try
abbrev pub connect_marks : {C : Type 0} → ℕ → ℕ → ℕ → AfterConnect C → List Mark
connect_marks k t m (connected.NotHeld tried) = []
connect_marks k t m (connected.Closed raw) = Ended t ∷ []
connect_marks k t m (connected.Ready lent) = Opened lent.id m ∷ Lent k lent.id ∷ Ended t ∷ []
connect_marks k t m (connected.Backoff until) = []
connect_marks k t m connected.Ended = Ended t ∷ []

-- the core after a try
abbrev pub after_connect : {C : Type 0} → ℕ → ℕ → ℕ → AfterConnect C → Core C → Core C
after_connect k t m (connected.NotHeld tried) core = core
after_connect k t m (connected.Closed raw) core = at_moment m (core_without_ticket t core)
after_connect k t m (connected.Ready lent) core = at_moment m (core_without_ticket t (lent_to k lent.id lent.created (opened core)))
after_connect k t m (connected.Backoff until) core = at_moment m (record core { tickets = with_ticket t (λ x. to_back_off (wait_of x) until x) core.tickets })
after_connect k t m connected.Ended core = at_moment m (core_without_ticket t core)

-- ---- cancel

-- the ticket waits or is in backoff
abbrev pub may_cancel : Option Phase → Bool
may_cancel (Some phase.Waiting) = true
may_cancel (Some (phase.Backoff until)) = true
may_cancel other = false

-- the marks of a cancel
abbrev pub cancel_marks : ℕ → Bool → List Mark
cancel_marks t true = Ended t ∷ []
cancel_marks t false = []

-- the core after a cancel
abbrev pub cancelled : {C : Type 0} → ℕ → Bool → Core C → Core C
cancelled t true core = core_without_ticket t core
cancelled t false core = core

-- ---- try_acquire

-- the first idle connection, where one may be lent past the line
abbrev pub try_lent : {C : Type 0} → Bool → List (Idle C) → Option (LentValue C)
try_lent true (i ∷ rest) = Some i.lent
try_lent may idle = None

-- the marks of a loan past the line
abbrev pub try_marks : {C : Type 0} → ℕ → Option (LentValue C) → List Mark
try_marks k (Some lent) = Taken lent.id ∷ Lent k lent.id ∷ []
try_marks k None = []

-- the core after a loan past the line
abbrev pub after_try : {C : Type 0} → ℕ → ℕ → Option (LentValue C) → Core C → Core C
after_try k m (Some lent) core = at_moment m (lent_to k lent.id lent.created (core_without_first core))
after_try k m None core = core

-- ---- serve_new

-- the marks of an ask that is served at once: the ticket is asked and leaves the line, the first idle connection is taken and lent, and the ticket ends
abbrev pub serve_marks : {C : Type 0} → ℕ → ℕ → ℕ → Option (LentValue C) → List Mark
serve_marks k t deadline (Some lent) = Asked t k deadline ∷ Left t ∷ Taken lent.id ∷ Lent k lent.id ∷ Ended t ∷ []
serve_marks k t deadline None = []

-- the core after it: as after a loan past the line, but one more ticket was numbered
abbrev pub after_serve : {C : Type 0} → ℕ → ℕ → Option (LentValue C) → Core C → Core C
after_serve k m (Some lent) core = record (after_try k m (Some lent) core) { next_ticket = core.next_ticket + 1 }
after_serve k m None core = core

-- ---- serve_first

-- the marks of a poll that lends at once: the ticket leaves the line, the first idle connection is taken and lent, and the ticket ends
abbrev pub first_marks : {C : Type 0} → ℕ → ℕ → Option (LentValue C) → List Mark
first_marks k t (Some lent) = Left t ∷ Taken lent.id ∷ Lent k lent.id ∷ Ended t ∷ []
first_marks k t None = []

-- the core after it: as after a loan past the line, but the ticket ended
abbrev pub after_first : {C : Type 0} → ℕ → ℕ → ℕ → Option (LentValue C) → Core C → Core C
after_first k t m (Some lent) core = core_without_ticket t (after_try k m (Some lent) core)
after_first k t m None core = core
