-- The calls of a value under a lock: its steps, each with what it was handed and what it answered, and what is told of a
-- state in which it stands. Its pools go by names of the type `N`; a lone pool has one.
use Rattle.std.specs.Prelude.{ℕ, Bool, List, Option, Result, Ok, Err}
use Rattle.sqlx_text.specs.declared.Moment.{Moment}
use Rattle.sqlx_text.specs.declared.OutOfMemory.{OutOfMemory}
use Rattle.sqlx_text.specs.declared.error.Error.{Error}
use Rattle.sqlx_pool_lists.specs.declared.options.PoolOptions.{PoolOptions}
use Rattle.sqlx_pool_lists.specs.declared.steps.AfterConnect.{AfterConnect}
use Rattle.sqlx_pool_lists.specs.declared.steps.AfterTest.{AfterTest}
use Rattle.sqlx_pool_lists.specs.declared.steps.CloseState.{CloseState}
use Rattle.sqlx_pool_lists.specs.declared.steps.Given.{Given}
use Rattle.sqlx_pool_lists.specs.declared.steps.Idle.{Idle}
use Rattle.sqlx_pool_lists.specs.declared.steps.Lent.{Lent}
use Rattle.sqlx_pool_lists.specs.declared.steps.Start.{Start}
use Rattle.sqlx_pool_lists.specs.declared.steps.Tried.{Tried}
use Rattle.sqlx_pool_lists.specs.declared.steps.Verdict.{Verdict}
use Rattle.sqlx_pool_parts.specs.Answers.{lent_alone}

-- A step of a pool: the client, the ticket or the connection, the caller's moment, what it told, and the answer.
pub data Step (C N : Type 0) : Type 0 where
  Ask : N → Moment → ℕ → Result ℕ Error → Step C N
  ServeNew : N → Moment → ℕ → Option (Lent C) → Step C N
  LendPast : N → Moment → ℕ → Result (Option (Lent C)) Error → Step C N
  Begin : N → ℕ → ℕ → Moment → Moment → Start C → Step C N
  ServePolled : N → ℕ → ℕ → Moment → Option (Lent C) → Step C N
  EndTest : N → ℕ → ℕ → Verdict C → AfterTest C → Step C N
  EndTry : N → ℕ → ℕ → Moment → Tried C → AfterConnect C → Step C N
  Cancel : N → ℕ → ℕ → Bool → Step C N
  Give : N → ℕ → Lent C → Moment → Bool → Given C → Step C N
  CloseLoan : N → ℕ → ℕ → Bool → Step C N
  Detach : N → ℕ → ℕ → Bool → Step C N
  Leak : N → ℕ → ℕ → Bool → Step C N
  Reap : N → Moment → Option (Idle C) → Step C N
  FirstPlace : N → Result Bool OutOfMemory → Step C N
  MinimumPlace : N → Result Bool OutOfMemory → Step C N
  MinimumDone : N → Moment → Option C → Option C → Step C N
  Close : N → List (Idle C) → Step C N
  Cut : N → Step C N
  CutIfLong : N → Step C N
  Limit : N → Option ℕ → Step C N
  SetConnect : Step C N
  Audit : Step C N
  AddChild : PoolOptions → Result N Error → Step C N
  Retire : N → List (Idle C) → Step C N

-- What is told of a state: what a question is answered, and why a call did no more. `L` is what a copy of a
-- log is, and `O` the options by which connections are opened.
pub data Look (N L O : Type 0) : Type 0 where
  Size : N → ℕ → Look N L O
  NumIdle : N → ℕ → Look N L O
  IsClosed : N → Bool → Look N L O
  Closing : N → CloseState → Look N L O
  LogLen : N → ℕ → Look N L O
  LogIs : N → L → Look N L O
  TicketsUsed : Look N L O
  LoansUsed : Look N L O
  TestsAt : N → Moment → Moment → Option Moment → Look N L O
  NothingToReap : N → Moment → Look N L O
  IsFilled : N → Look N L O
  Owns : N → ℕ → Look N L O
  IsFull : Look N L O
  Connects : O → Look N L O

-- what came of a loan past the line, without the share of what it lent
abbrev pub past_alone : {C S : Type 0} → Result (Option (Lent C × S)) Error → Result (Option (Lent C)) Error
past_alone (Ok lent) = Ok (lent_alone lent)
past_alone (Err e) = Err e
