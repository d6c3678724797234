-- What some steps come to in a family.
use Rattle.std.specs.Prelude.{ℕ, ◌+◌, Option, Some, None, length}
use Rattle.sqlx_pool_lists.specs.declared.steps.CloseState.{CloseState}
use Rattle.sqlx_pool_lists.specs.declared.steps.Given.{Given}
use Rattle.sqlx_pool_lists.specs.declared.steps.Lent.{Lent}
use Rattle.sqlx_pool_lists.specs.declared.steps.Start.{Start}
use Rattle.sqlx_pool_lists.specs.Core.{Core, ticket_of, loan_of}
use Rattle.sqlx_pool_lists.specs.CoreTurn.{turn_of}
use Rattle.sqlx_pool_lists.specs.Edits.{at_moment, asked}
use Rattle.sqlx_pool_lists.specs.PollSteps.{start_answer, started, try_lent, after_try}
use Rattle.sqlx_pool_lists.specs.MaintenanceSteps.{close_state}
use Rattle.sqlx_pool_core.specs.ReturnSteps.{core_after_give}
use Rattle.sqlx_family.specs.Pools.{Pools, pool_in, with_pool}
use Rattle.sqlx_family.specs.RootLine.{is_entitled, granting, passes_in}
use Rattle.sqlx_family.specs.Permits.{stepped}

module _ {C : Type 0} where
  -- what the start of a client's ticket answers in a pool, at a moment
  abbrev pub start_answer_in : ℕ → ℕ → ℕ → ℕ → Pools C → Start C
  start_answer_in q k t m f = start_answer (turn_of (is_entitled q t f) (pool_in q f).closed m (pool_in q f) (ticket_of k t (pool_in q f).tickets)) (pool_in q f).idle

  -- the family behind a start that answered so: a child whose ticket takes a permit from the root has it
  abbrev pub family_after_start : ℕ → ℕ → ℕ → ℕ → Start C → Pools C → Pools C
  family_after_start q k t m answer f = stepped q (started t m answer (pool_in q (granting q k t m f))) (granting q k t m f)

  -- the pool behind an ask of this client at a moment
  abbrev pub core_after_ask : ℕ → ℕ → Core C → Core C
  core_after_ask k m core = at_moment m (asked k (m + core.options.acquire_timeout) core)

  -- the pool behind the return of a connection by this client, where it is answered so
  abbrev pub core_after_return : ℕ → Lent C → ℕ → Given C → Core C → Core C
  core_after_return k lent m answer core = core_after_give (loan_of k lent.id core.held) lent m answer core

  -- what a loan past the line would lend in a pool
  abbrev pub try_lent_in : ℕ → Pools C → Option (Lent C)
  try_lent_in q f = try_lent (passes_in q f) (pool_in q f).idle

  -- the family behind a loan past the line to this client at a moment, or behind none
  abbrev pub family_after_try : ℕ → ℕ → ℕ → Option (Lent C) → Pools C → Pools C
  family_after_try q k m (Some lent) f = with_pool q (after_try k m (Some lent) (pool_in q f)) f
  family_after_try q k m None f = f

  -- how far a pool is closed: by whether it counts as closed, how many of its connections are owned and leaked, and how many of its tickets haven't ended
  abbrev pub closing_in : ℕ → Pools C → CloseState
  closing_in q f = let core = pool_in q f in close_state core.closed (length core.held) core.leaked (length core.tickets)
