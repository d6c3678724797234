-- The headline: what holds of a script by its events and replies alone.
use Rattle.std.specs.Prelude.{◌≡◌, ◌≢◌, ◌↔◌, ℕ, ◌<◌, true, false, List, [], ◌∷◌, ◌++◌, Some, None}
use Rattle.sqlx_text.specs.declared.moment.Moment.{Moment}
use Rattle.sqlx_pool_marks.specs.declared.mark.Mark.{Mark}
use Rattle.sqlx_pool_marks.specs.declared.mark.Mark.TheVariants.{Lent}
use Rattle.sqlx_pool_marks.specs.Marks.{PendingTicket, tickets_of, is_open, owner_of}
use Rattle.sqlx_pool_marks.specs.Counts.{asked_in}
use Rattle.sqlx_pool_marks.specs.View.{view_of, before, free}
use Rattle.sqlx_pool_marks.specs.Laws.{NoTwoOwners, InTurn, WithinMaximum}
use Rattle.sqlx_script.specs.declared.answers.PollAnswers.{PollAnswers}
use Rattle.sqlx_script.specs.declared.pool_line.PoolLine.{PoolLine}
use Rattle.sqlx_script.specs.declared.step.Event.{Event}
use Rattle.sqlx_script.specs.declared.step.Step.TheVariants.{Poll}
use Rattle.sqlx_script.specs.declared.reply.Reply.{Reply}
use Rattle.sqlx_script.specs.declared.reply.Reply.TheVariants as reply
use Rattle.sqlx_savepoints.specs.Brackets.{depth}
use Rattle.sqlx_script_rules.specs.ScriptMarks.{added, marks_of}
use Rattle.sqlx_script_rules.specs.ScriptLevels.{gone_by, history_of}
use Rattle.sqlx_script_rules.specs.Pairs.{Pairs}

-- Whatever came before, a connection without an owner has no open level: no half-finished transaction reaches the next user.
abbrev pub RestsUnowned : PoolLine → Pairs → Type 0
RestsUnowned pool pairs = (front later : Pairs) → pairs ≡ front ++ later → (conn : ℕ) → owner_of conn (marks_of pool front) ≡ None → depth conn (history_of pool front) ≡ 0

-- Each loan finds its connection with no open level: none is lent mid-transaction. The pair makes the loan behind those of `front` and behind the marks `done` of its own.
abbrev pub LendsAtRest : PoolLine → Pairs → Type 0
LendsAtRest pool pairs =
    (front later : Pairs) (pair : Event × Reply) (done rest : List Mark) (client conn : ℕ)
    → pairs ≡ front ++ pair ∷ later → added pool (marks_of pool front) pair ≡ done ++ Lent client conn ∷ rest
    → depth conn (gone_by done (history_of pool front)) ≡ 0

-- After each event the pool has no more connections than its maximum.
abbrev pub KeepsMaximum : PoolLine → Pairs → Type 0
KeepsMaximum pool pairs = (front later : Pairs) → pairs ≡ front ++ later → WithinMaximum pool.max (marks_of pool front)

-- A waiting ticket of its client, polled in time in an open pool.
pub record IsWaiting (pool : PoolLine) (pairs : Pairs) (moment client ticket : ℕ) (asking : PendingTicket) : Type 0 where
  pub asked : asked_in client ticket (tickets_of (marks_of pool pairs)) ≡ Some asking
  pub waits : asking.left ≡ false
  pub opened : is_open (marks_of pool pairs) ≡ true
  pub in_time : moment < asking.deadline

-- Behind these pairs a waiting ticket that is polled in time in an open pool, with this reply, stops waiting exactly when fewer waiting tickets precede it than permits are free.
abbrev pub StopsInTurn : PoolLine → Pairs → ℕ → ℕ → ℕ → Reply → Type 0
StopsInTurn pool pairs moment client ticket r =
    (asking : PendingTicket) → IsWaiting pool pairs moment client ticket asking
    → (r ≢ reply.Waiting) ↔ (before asking.ticket (view_of (marks_of pool pairs)) < free pool.max (view_of (marks_of pool pairs)))

-- Each poll of a waiting ticket, in time in an open pool, stops its waiting exactly in its turn.
abbrev pub WaitsInTurn : PoolLine → Pairs → Type 0
WaitsInTurn pool pairs =
    (front later : Pairs) (moment : Moment) (client ticket : ℕ) (answers : PollAnswers) (r : Reply)
    → pairs ≡ front ++ (record { moment = moment; step = Poll client ticket answers }, r) ∷ later → StopsInTurn pool front moment.0 client ticket r

-- By events and replies alone no connection has two owners, none is lent mid-transaction, a waiting ticket stops waiting exactly in its turn, and the pool keeps its maximum after each event.
pub record HoldsHeadline (pool : PoolLine) (pairs : Pairs) : Type 0 where
  pub no_two_owners : NoTwoOwners [] (marks_of pool pairs)
  pub lends_at_rest : LendsAtRest pool pairs
  pub rests : RestsUnowned pool pairs
  pub waits_in_turn : WaitsInTurn pool pairs
  pub in_turn : InTurn pool.max [] (marks_of pool pairs)
  pub within : KeepsMaximum pool pairs
