-- The root's line: the waiting tickets of the root, and those of each child that owns fewer permits than its maximum, in the order of their numbers.
use Rattle.std.specs.Prelude.{ℕ, ◌+◌, ◌||◌, ◌&&◌, ◌==◌, Bool, not, nat_lt, Option, Some, None, if◌then◌else◌, sum_by, drop}
use Rattle.sqlx_pool_lists.specs.Core.{Core, waiting, free}
use Rattle.sqlx_pool_lists.specs.CoreTurn.{is_first_in_line}
use Rattle.sqlx_pool_lists.specs.Shared.{waiting_before, wants_permits, waits_in_time}
use Rattle.sqlx_family.specs.declared.family.FamilyPool.{FamilyPool}
use Rattle.sqlx_family.specs.Permits.{granted}
use Rattle.sqlx_family.specs.Pools.{Pools, entry_of, root_of, counts_as_closed}

-- how many of a pool's waiting tickets precede this one, or wait at all
abbrev pub ahead : {C : Type 0} → Option ℕ → Core C → ℕ
ahead (Some t) core = waiting_before t core
ahead None core = waiting core.tickets

-- the same of a child in the root's line
abbrev pub lined_ahead : {C : Type 0} → Option ℕ → FamilyPool C → ℕ
lined_ahead t child = if wants_permits child.core then ahead t child.core else 0

-- how many tickets precede this one in the root's line, or how long that line is
abbrev pub root_ahead : {C : Type 0} → Option ℕ → Pools C → ℕ
root_ahead t f = ahead t (root_of f) + sum_by (lined_ahead t) (drop 1 f.pools)

-- the root has more free permits than that
abbrev pub root_admits : {C : Type 0} → Option ℕ → Pools C → Bool
root_admits t f = nat_lt (root_ahead t f) (free (root_of f))

-- a child's ticket is entitled by the root's line: the child stands in it, and fewer tickets precede this one there than the root has free permits
abbrev pub is_entitled_by_root : {C : Type 0} → ℕ → ℕ → Pools C → Bool
is_entitled_by_root q t f = not (q == 0) && wants_permits (entry_of q f).core && root_admits (Some t) f

-- a ticket is entitled in the line of its own pool
abbrev pub is_entitled_alone : {C : Type 0} → ℕ → ℕ → Pools C → Bool
is_entitled_alone q t f = if q == 0 then root_admits (Some t) f else is_first_in_line t (entry_of q f).core

-- a ticket is entitled in its own line, or, where it is a child's, in the root's
abbrev pub is_entitled : {C : Type 0} → ℕ → ℕ → Pools C → Bool
is_entitled q t f = is_entitled_alone q t f || is_entitled_by_root q t f

-- the client's ticket waits, in time and in an open pool: it leaves the line where it is entitled
abbrev pub may_leave : {C : Type 0} → ℕ → ℕ → ℕ → ℕ → Pools C → Bool
may_leave q k t moment f = not (counts_as_closed q f) && waits_in_time k t moment (entry_of q f).core

-- a child's ticket takes a permit from the root: it leaves the line at this moment, entitled by the root's line and not by its own
abbrev pub takes_permit : {C : Type 0} → ℕ → ℕ → ℕ → ℕ → Pools C → Bool
takes_permit q k t moment f = not (is_entitled_alone q t f) && (is_entitled_by_root q t f && may_leave q k t moment f)

-- the family in which the client's ticket is polled: a child whose ticket takes a permit from the root has it already
abbrev pub granting : {C : Type 0} → ℕ → ℕ → ℕ → ℕ → Pools C → Pools C
granting q k t moment f = granted (takes_permit q k t moment f) q f

-- fewer tickets wait in the line of a pool than it has free permits
abbrev pub has_permit_left : {C : Type 0} → ℕ → Pools C → Bool
has_permit_left q f = if q == 0 then root_admits None f else nat_lt (waiting (entry_of q f).core.tickets) (free (entry_of q f).core)

-- connections may be lent, reaped or opened past the line: of the root past the root's, of a child past its own
abbrev pub passes_in : {C : Type 0} → ℕ → Pools C → Bool
passes_in q f = not (counts_as_closed q f) && has_permit_left q f
