-- The value that contracts see of a family: its pools by their names, 0 being the root's.
use Rattle.std.specs.Prelude.{ℕ, ◌||◌, Bool, false, List, [], ◌∷◌, ◌++◌, slice_index_or, slice_set}
use Rattle.sqlx_pool_lists.specs.declared.shared.Shared.{Shared}
use Rattle.sqlx_pool_lists.specs.declared.options.PoolOptions.{PoolOptions}
use Rattle.sqlx_pool_lists.specs.Core.{Core, core_of}
use Rattle.sqlx_pool_lists.specs.Shared.{told, shared_of}
use Rattle.sqlx_family.specs.declared.family.FamilyPool.{FamilyPool}
use Rattle.sqlx_family.specs.NoPool.{no_pool}

-- The root and its children in the order of their adding, the numbers that come next in any of their logs, and the last moment.
pub record Pools (C : Type 0) : Type 0 where
  pub pools : List (FamilyPool C)
  pub shared : Shared

-- the value of these fields
abbrev pub pools_of : {C : Type 0} → List (FamilyPool C) → Shared → Pools C
pools_of pools shared = record { pools = pools; shared = shared }

-- the pool of this name, with whether it was retired
abbrev pub entry_of : {C : Type 0} → ℕ → Pools C → FamilyPool C
entry_of q f = slice_index_or f.pools q no_pool

-- the root
abbrev pub root_of : {C : Type 0} → Pools C → Core C
root_of f = (entry_of 0 f).core

-- a pool counts as closed where it or the root is shut
abbrev pub counts_as_closed : {C : Type 0} → ℕ → Pools C → Bool
counts_as_closed q f = (entry_of q f).core.shut || (root_of f).shut

-- the pool of this name as its family sees it: with the numbers and the last moment that all share, and closed where it or the root is shut
abbrev pub pool_in : {C : Type 0} → ℕ → Pools C → Core C
pool_in q f = told (counts_as_closed q f) f.shared (entry_of q f).core

-- the pool of this name is this one, and the family goes on from its numbers and its moment
abbrev pub with_pool : {C : Type 0} → ℕ → Core C → Pools C → Pools C
with_pool q core f = record { pools = slice_set f.pools q (record (entry_of q f) { core = core }); shared = shared_of core }

-- a new pool that owns so many permits
abbrev pub new_pool : {C : Type 0} → PoolOptions → ℕ → FamilyPool C
new_pool options n = record { core = core_of options [] [] [] 0 false false 0 n 1 1 0; retired = false }

-- a family of one root, which owns as many permits as its maximum
abbrev pub new_family : {C : Type 0} → PoolOptions → Pools C
new_family options = record { pools = new_pool options options.max_connections ∷ []; shared = record { next_ticket = 1; next_conn = 1; last = record { 0 = 0 } } }

-- the family has one child more, which owns no permit
abbrev pub with_child : {C : Type 0} → PoolOptions → Pools C → Pools C
with_child options f = record f { pools = f.pools ++ new_pool options 0 ∷ [] }
