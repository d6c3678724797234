-- What is asked of a call's answer, and of a ticket, where marks tell the rest.
use Rattle.std.specs.Prelude.{◌≡◌, ℕ, ◌^◌, ◌<◌, ◌≤◌, ◌==◌, ◌&&◌, Bool, true, false, not, nat_lt, nat_le, Option, Some, List, length}
use Rattle.sqlx_pool_marks.specs.declared.mark.Mark.{Mark}
use Rattle.sqlx_pool_marks.specs.Marks.{owner_of}
use Rattle.sqlx_pool_marks.specs.Answers.{owns, is_kept_at}
use Rattle.sqlx_pool_lists.specs.declared.options.PoolOptions.{PoolOptions}
use Rattle.sqlx_pool_lists.specs.Limits.{limits_of}
use Rattle.sqlx_pool_lists.specs.Core.{Core, free}
use Rattle.sqlx_pool_lists.specs.CoreTurn.{first_deadline}
use Rattle.sqlx_pool_lists.specs.declared.ticket.Phase.{Phase}
use Rattle.sqlx_pool_lists.specs.declared.ticket.Phase.TheVariants as phase
use Rattle.sqlx_pool_lists.specs.declared.steps.Lent.{Lent}
use Rattle.sqlx_pool_lists.specs.declared.steps.Given.{Given}
use Rattle.sqlx_pool_lists.specs.declared.steps.Given.TheVariants as given

-- a step of its own is under way for the ticket
abbrev pub is_busy : Option Phase → Bool
is_busy (Some (phase.Testing c created before)) = true
is_busy (Some phase.Connecting) = true
is_busy other = false

-- the number of a connection on its way
abbrev pub lent_conn : {C : Type 0} → Lent C → ℕ
lent_conn lent = lent.id

-- a new ticket is served at once: the pool isn't closed, nobody has a ticket, a permit is free, the numbers of tickets and of connections aren't used up, and a ticket has time
abbrev pub serves_at_once : {C : Type 0} → Bool → Core C → Bool
serves_at_once closed core = not closed && (length core.tickets == 0) && nat_lt 0 (free core) && nat_le core.next_ticket (2 ^ 63) && nat_le core.next_conn (2 ^ 63) && nat_lt 0 core.options.acquire_timeout

-- What holds where a poll lends at once: the client's ticket is the first of all, waits and is in time, the pool isn't closed, a permit is free, and the numbers of connections aren't used up.
pub record ServesFirst {C : Type 0} (k t m : ℕ) (core : Core C) : Type 0 where
  pub deadline : ℕ
  pub first : first_deadline k t core.tickets ≡ Some deadline
  pub in_time : m < deadline
  pub open_yet : core.closed ≡ false
  pub permit : 0 < free core
  pub numbered : core.next_conn ≤ 2 ^ 63

-- it rests in the pool
abbrev pub is_kept : {C : Type 0} → Given C → Bool
is_kept given.Kept = true
is_kept other = false

-- the client owned it
abbrev pub is_held : {C : Type 0} → Given C → Bool
is_held (given.NotHeld raw) = false
is_held other = true

-- A return by the marks: it is kept where the marks say so, and is the client's where they say who owns it.
abbrev pub IsGivenAt : {C : Type 0} → PoolOptions → List Mark → ℕ → ℕ → ℕ → Bool → Given C → Type 0
IsGivenAt options marks k c m accepted given = (is_kept given ≡ is_kept_at (limits_of options) marks k c m accepted) × (is_held given ≡ owns k (owner_of c marks))
