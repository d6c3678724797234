-- What is said of the parts of a whole poll.
use Rattle.std.specs.Prelude.{◌≡◌, ◌<◌, ◌⊎◌, drop, false, ℕ, ◌+◌, ⊤, List, [], ◌∷◌, Option, Some, None, All}
use Rattle.sqlx_text.specs.declared.error.Error.{Error}
use Rattle.sqlx_pool_lists.specs.declared.steps.Lent.{Lent}
use Rattle.sqlx_pool_lists.specs.declared.steps.Idle.{Idle}
use Rattle.sqlx_pool_lists.specs.declared.steps.Polled.{Polled}
use Rattle.sqlx_pool_lists.specs.declared.steps.Polled.TheVariants as polled
use Rattle.sqlx_pool_lists.specs.declared.steps.Tried.{Tried}
use Rattle.sqlx_pool_lists.specs.declared.steps.Tried.TheVariants as tried
use Rattle.sqlx_pool_lists.specs.declared.steps.AfterConnect.{AfterConnect}
use Rattle.sqlx_pool_lists.specs.declared.steps.AfterConnect.TheVariants as connected
use Rattle.sqlx_pool_lists.specs.declared.ticket.Ticket.{Ticket}
use Rattle.sqlx_pool_marks.specs.declared.mark.Mark.{Mark}
use Rattle.sqlx_pool_marks.specs.declared.turn.Turn.{Turn}
use Rattle.sqlx_pool_marks.specs.declared.turn.Turn.TheVariants as turned
use Rattle.sqlx_pool_core.specs.Outside.{HasRisen}
use Rattle.sqlx_pool_lists.specs.Core.{Core}
use Rattle.sqlx_pool_lists.specs.Edits.{with_ticket, to_connect}
use Rattle.sqlx_pool_lists.specs.PollSteps.{wait_of}
use Rattle.sqlx_pool_lists.specs.CoreTurn.{core_turn, turn_at_marks}
use Rattle.sqlx_pool_lists.specs.StandsFor.{StandsFor}

-- the turn of a client's ticket at m is the poll table's, by whatever marks the core stands for
abbrev pub TurnsByTable : {C : Type 0} → Core C → ℕ → ℕ → ℕ → Type 0
TurnsByTable core k t m = (marks : List Mark) → StandsFor core marks → core_turn core k t m ≡ turn_at_marks core marks k t m

-- P of the connection, if the poll lent one
abbrev pub IfReady : {C : Type 0} → Polled C → (Lent C → Type 0) → Type 0
IfReady (polled.Ready lent) P = P lent
IfReady other P = ⊤

-- P of the error, if the connect was refused for good
abbrev pub IfRefused : {C : Type 0} → Polled C → (Error → Type 0) → Type 0
IfRefused (polled.Refused error) P = P error
IfRefused other P = ⊤

-- P of the moment until which the ticket backs off, if it does
abbrev pub IfBackoff : {C : Type 0} → Polled C → (ℕ → Type 0) → Type 0
IfBackoff (polled.Backoff until) P = P until
IfBackoff other P = ⊤

-- why a ticket backs off: its turn was to, or this poll's try was refused, which a count of faults or of a hook's refusals shows
abbrev pub BacksOff : Turn → ℕ → ℕ → ℕ → ℕ → ℕ → Type 0
BacksOff turn faults faults_now refusals refusals_now until = (turn ≡ turned.Backoff until) ⊎ (HasRisen faults faults_now ⊎ HasRisen refusals refusals_now)

-- how many levels the first idle connection has open
abbrev pub first_depth : {C : Type 0} → (C → ℕ) → List (Idle C) → ℕ
first_depth depth [] = 0
first_depth depth (i ∷ rest) = depth i.lent.raw

-- This holds where a hook looks at a connection before it is lent; else where the first idle connection has no level open, and the others have none either if a poll tests more of them.
abbrev pub WhereIdleRests : {C X : Type 0} → (X → C → ℕ) → Core C → X → Type 0 → Type 0
WhereIdleRests depth core out This = (core.options.before_acquire ≡ false → first_depth (depth out) core.idle ≡ 0) → (core.options.before_acquire ≡ false → 1 < core.options.idle_tries → All (λ i. depth out i.lent.raw ≡ 0) (drop 1 core.idle)) → This

-- the connection under test is gone: its ticket connects
abbrev pub untested : {C : Type 0} → ℕ → Core C → Core C
untested t core = record core { tickets = with_ticket t to_connect core.tickets }

-- until when a refused try at m makes the ticket wait
abbrev pub next_try_at : ℕ → Option Ticket → ℕ
next_try_at m None = 0
next_try_at m (Some x) = m + wait_of x

-- the answer of a ticket that connects, in an open pool; n is the next number
abbrev pub tried_answer : {C : Type 0} → ℕ → ℕ → ℕ → Tried C → AfterConnect C
tried_answer n m until (tried.Opened raw) = connected.Ready (record { id = n; created = record { 0 = m }; raw = raw })
tried_answer n m until tried.Rejected = connected.Backoff until
tried_answer n m until tried.Transient = connected.Backoff until
tried_answer n m until tried.Fatal = connected.Ended
