-- The headline's laws: what holds whatever the events of a script, where each reply is the answer to its event. A poll of a script may test one connection at least.
use Rattle.std.specs.Prelude.{ℕ, ◌≤◌, List, []}
use Rattle.sqlx_text.specs.declared.moment.Moment.{Moment}
use Rattle.sqlx_pool_marks.specs.Laws.{NoTwoOwners, InTurn}
use Rattle.sqlx_script.specs.declared.pool_line.PoolLine.{PoolLine}
use Rattle.sqlx_script.specs.declared.answers.PollAnswers.{PollAnswers}
use Rattle.sqlx_script.specs.declared.step.Event.{Event}
use Rattle.sqlx_script.specs.declared.step.Step.TheVariants.{Poll}
use Rattle.sqlx_script_rules.specs.ScriptMarks.{marks_of}
use Rattle.sqlx_script_rules.specs.Answer.{answer}
use Rattle.sqlx_player.specs.Output.{pairs_after}
use Rattle.sqlx_script_rules.specs.Output.{pool_rules}
use Rattle.sqlx_script_rules.specs.Headline.{RestsUnowned, LendsAtRest, KeepsMaximum, StopsInTurn, HoldsHeadline}
use Rattle.sqlx_script_rules.specs.Pairs.{Pairs}

-- A waiting ticket polled in time in an open pool stops waiting exactly when fewer waiting tickets precede it than permits are free.
abbrev pub StopsWaitingInTurn : Type 0
StopsWaitingInTurn = (pool : PoolLine) (pairs : Pairs) (moment : Moment) (client ticket : ℕ) (answers : PollAnswers)
    → StopsInTurn pool pairs moment.0 client ticket (answer pool pairs (record { moment = moment; step = Poll client ticket answers }))

-- No connection has two owners.
abbrev pub ScriptsLendOnce : Type 0
ScriptsLendOnce = (pool : PoolLine) → 1 ≤ pool.tries → (events : List Event) → NoTwoOwners [] (marks_of pool (pairs_after pool_rules pool [] events))

-- None is lent mid-transaction.
abbrev pub ScriptsLendAtRest : Type 0
ScriptsLendAtRest = (pool : PoolLine) → 1 ≤ pool.tries → (events : List Event) → LendsAtRest pool (pairs_after pool_rules pool [] events)

-- A connection without an owner has no open level.
abbrev pub ScriptsRestUnowned : Type 0
ScriptsRestUnowned = (pool : PoolLine) → 1 ≤ pool.tries → (events : List Event) → RestsUnowned pool (pairs_after pool_rules pool [] events)

-- Tickets leave the line in turn.
abbrev pub ScriptsKeepTheLine : Type 0
ScriptsKeepTheLine = (pool : PoolLine) → 1 ≤ pool.tries → (events : List Event) → InTurn pool.max [] (marks_of pool (pairs_after pool_rules pool [] events))

-- After each event the pool keeps its maximum.
abbrev pub ScriptsKeepTheMaximum : Type 0
ScriptsKeepTheMaximum = (pool : PoolLine) → 1 ≤ pool.tries → (events : List Event) → KeepsMaximum pool (pairs_after pool_rules pool [] events)

-- The whole headline.
abbrev pub ScriptsHoldTheHeadline : Type 0
ScriptsHoldTheHeadline = (pool : PoolLine) → 1 ≤ pool.tries → (events : List Event) → HoldsHeadline pool (pairs_after pool_rules pool [] events)
