-- What becomes of a family by a place for the minimum of one of its pools.
use Rattle.std.specs.Prelude.{ℕ, Bool, true, false, Option, List}
use Rattle.sqlx_pool_marks.specs.declared.mark.Mark.{Mark}
use Rattle.sqlx_pool_lists.specs.Core.{Core}
use Rattle.sqlx_pool_lists.specs.MaintenanceSteps.{done}
use Rattle.sqlx_family.specs.Pools.{Pools, pool_in}
use Rattle.sqlx_family.specs.Permits.{stepped}
use Rattle.sqlx_pool.specs.Places.{holds_place, done_if_marks}

module _ {C : Type 0} where
  -- the marks of a place of the pool that was used or given up at a moment, where one was held
  abbrev pub marks_of_done : Core C → ℕ → Option C → List Mark
  marks_of_done core m raw = done_if_marks (holds_place core) core.closed core.next_conn m raw

  -- the family behind a place of this pool that was used or given up, where one was held
  abbrev pub family_after_done : Bool → ℕ → ℕ → Option C → Pools C → Pools C
  family_after_done true q m raw f = stepped q (done (pool_in q f).closed m raw (pool_in q f)) f
  family_after_done false q m raw f = f
