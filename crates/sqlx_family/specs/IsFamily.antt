-- What holds of every family.
use Rattle.std.specs.Prelude.{◌≡◌, ℕ, ◌+◌, ◌-◌, ◌^◌, ◌<◌, ◌≤◌, length, sum_by, All}
use Rattle.sqlx_pool_lists.specs.declared.shared.Shared.{Shared}
use Rattle.sqlx_pool_lists.specs.Core.{taken}
use Rattle.sqlx_pool_core.specs.Numbers.{under_way}
use Rattle.sqlx_family.specs.declared.family.FamilyPool.{FamilyPool}
use Rattle.sqlx_family.specs.Pools.{Pools, root_of}

-- how many permits the pool owns
abbrev pub permits_of : {C : Type 0} → FamilyPool C → ℕ
permits_of p = p.core.permits

-- how many connections may still be numbered for what is under way in the pool
abbrev pub under_way_in : {C : Type 0} → FamilyPool C → ℕ
under_way_in p = under_way p.core

-- how many permits there are
abbrev pub maximum_of : {C : Type 0} → Pools C → ℕ
maximum_of f = (root_of f).options.max_connections

-- The pool knows no number that is still to come, owns a permit for each connection that has an owner or was leaked, and for all that is under way, and owns no more than its maximum.
pub record Joins {C : Type 0} (shared : Shared) (p : FamilyPool C) : Type 0 where
  pub tickets : p.core.next_ticket ≤ shared.next_ticket
  pub conns : p.core.next_conn ≤ shared.next_conn
  pub paid : taken p.core ≤ p.core.permits
  pub fits : p.core.permits ≤ p.core.options.max_connections

-- There is a root, and so few pools that each has a name; the permits that they own add up to the root's maximum; and the numbers have a bound.
pub record IsFamily {C : Type 0} (f : Pools C) : Type 0 where
  pub some : 1 ≤ length f.pools
  pub few : length f.pools ≤ 2 ^ 32 - 1
  pub small : maximum_of f < 2 ^ 32
  pub permits : sum_by permits_of f.pools ≡ maximum_of f
  pub first_ticket : 1 ≤ f.shared.next_ticket
  pub first_conn : 1 ≤ f.shared.next_conn
  pub few_tickets : f.shared.next_ticket ≤ 2 ^ 63 + 1
  pub few_conns : f.shared.next_conn + sum_by under_way_in f.pools ≤ 2 ^ 63 + 1 + maximum_of f
  pub joins : All (Joins f.shared) f.pools
