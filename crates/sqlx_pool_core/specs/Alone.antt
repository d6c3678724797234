-- A pool that belongs to no family.
use Rattle.std.specs.Prelude.{◌≡◌, ◌+◌, ◌^◌, ◌≤◌}
use Rattle.sqlx_pool_lists.specs.Core.{Core}
use Rattle.sqlx_pool_core.specs.Numbers.{under_way}

-- It owns all its permits, counts as closed where it is shut, and its numbers have a bound.
pub record IsAlone {C : Type 0} (core : Core C) : Type 0 where
  pub all : core.permits ≡ core.options.max_connections
  pub closed : core.closed ≡ core.shut
  pub few : core.next_conn + under_way core ≤ 2 ^ 63 + 1 + core.options.max_connections
