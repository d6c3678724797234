-- Permits that move between a root and its children.
use Rattle.std.specs.Prelude.{ℕ, ◌+◌, ◌-◌, ◌<◌, ◌≤◌, Bool, true, false, slice_set}
use Rattle.sqlx_pool_lists.specs.Core.{Core, free}
use Rattle.sqlx_pool_lists.specs.Shared.{with_permits}
use Rattle.sqlx_family.specs.Pools.{Pools, entry_of, with_pool}

-- how many permits the pool of this name owns
abbrev pub owned_by : {C : Type 0} → ℕ → Pools C → ℕ
owned_by q f = (entry_of q f).core.permits

-- the pool of this name owns so many permits
abbrev pub owning : {C : Type 0} → ℕ → ℕ → Pools C → Pools C
owning q n f = record f { pools = slice_set f.pools q (record (entry_of q f) { core = with_permits n (entry_of q f).core }) }

-- so many permits more for a pool
abbrev pub with_more : {C : Type 0} → ℕ → ℕ → Pools C → Pools C
with_more q n f = owning q (owned_by q f + n) f

-- so many permits less for a pool
abbrev pub with_less : {C : Type 0} → ℕ → ℕ → Pools C → Pools C
with_less q n f = owning q (owned_by q f - n) f

-- so many permits move from one pool to another
abbrev pub moved : {C : Type 0} → ℕ → ℕ → ℕ → Pools C → Pools C
moved from to n f = with_more to n (with_less from n f)

-- a child takes one permit from the root, where it takes one
abbrev pub granted : {C : Type 0} → Bool → ℕ → Pools C → Pools C
granted true q f = moved 0 q 1 f
granted false q f = f

-- The root has a free permit for this child, which owns fewer than its maximum.
pub record MayGrant {C : Type 0} (q : ℕ) (f : Pools C) : Type 0 where
  pub child : 1 ≤ q
  pub wants : (entry_of q f).core.permits < (entry_of q f).core.options.max_connections
  pub some : 0 < free (entry_of 0 f).core

-- the free permits of a pool go to the root, where it was retired
abbrev pub settled_if : {C : Type 0} → Bool → ℕ → Pools C → Pools C
settled_if true q f = moved q 0 (free (entry_of q f).core) f
settled_if false q f = f

-- a retired pool keeps no free permit
abbrev pub settled : {C : Type 0} → ℕ → Pools C → Pools C
settled q f = settled_if (entry_of q f).retired q f

-- the family after a step of one pool: what a retired pool frees goes to the root at once
abbrev pub stepped : {C : Type 0} → ℕ → Core C → Pools C → Pools C
stepped q core f = settled q (with_pool q core f)

-- the pool is retired from now on
abbrev pub retiring : {C : Type 0} → ℕ → Pools C → Pools C
retiring q f = record f { pools = slice_set f.pools q (record (entry_of q f) { retired = true }) }
