-- The value that contracts see of a pool that is alone.
use Rattle.std.specs.Prelude.{◌≡◌, ℕ, ◌+◌, ◌<◌, ◌⊎◌, ◌&&◌, Bool, true, nat_lt, ⊤}
use Rattle.sqlx_pool_places.specs.Line.{TicketLine}
use Rattle.sqlx_pool_lists.specs.Core.{Core}
use Rattle.sqlx_pool_lists.specs.CoreTurn.{is_first_in_line}
use Rattle.sqlx_pool_lists.specs.PollSteps.{phase_for, is_in_line}
use Rattle.sqlx_pool_lists.specs.declared.steps.Start.{Start}
use Rattle.sqlx_pool_lists.specs.declared.steps.Start.TheVariants as start

-- The pool, the edge of its entitled tickets, and how often that moved.
pub record LonePool (C : Type 0) : Type 0 where
  pub pool : Core C
  pub edge : ℕ
  pub moves : ℕ

-- the pool with the line that it keeps
abbrev pub lone_of : {C : Type 0} → Core C → TicketLine → LonePool C
lone_of core line = record { pool = core; edge = line.edge; moves = line.moves }

-- the client's ticket waits, and fewer waiting tickets precede it than permits are free
abbrev pub is_entitled : {C : Type 0} → ℕ → ℕ → Core C → Bool
is_entitled k t core = is_in_line (phase_for k t core.tickets) && is_first_in_line t core

-- the edge is where it was
abbrev pub LeavesEdge : {C : Type 0} → LonePool C → LonePool C → Type 0
LeavesEdge old new = (new.edge ≡ old.edge) × (new.moves ≡ old.moves)

-- an edge stays, or it moves forward, which counts one
abbrev pub MovesOnce : TicketLine → TicketLine → Type 0
MovesOnce old new = ((new.edge ≡ old.edge) × (new.moves ≡ old.moves)) ⊎ ((old.edge < new.edge) × (new.moves ≡ old.moves + 1))

-- a ticket that waits is entitled exactly where it is below the edge
abbrev pub EdgeTells : {C : Type 0} → LonePool C → Type 0
EdgeTells now = (client ticket : ℕ) → is_in_line (phase_for client ticket now.pool.tickets) ≡ true → is_entitled client ticket now.pool ≡ nat_lt ticket now.edge

-- P, if the poll goes on with a test or a connect
abbrev pub IfGoesOn : {C : Type 0} → Start C → Type 0 → Type 0
IfGoesOn (start.Test i) P = P
IfGoesOn start.Connect P = P
IfGoesOn other P = ⊤

-- The edge stays, or it moves forward, which counts one. It tells who is entitled, before and after; so a ticket that is entitled stays so as long as it waits.
pub record KeepsEntitled {C : Type 0} (old new : LonePool C) : Type 0 where
  pub moves : LeavesEdge old new ⊎ ((old.edge < new.edge) × (new.moves ≡ old.moves + 1))
  pub was : EdgeTells old
  pub is : EdgeTells new
  pub stays : (client ticket : ℕ) → is_entitled client ticket old.pool ≡ true → is_in_line (phase_for client ticket new.pool.tickets) ≡ true → is_entitled client ticket new.pool ≡ true
