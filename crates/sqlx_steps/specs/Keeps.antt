-- The database and the pool of its one connection, as they keep a version.
use Rattle.std.specs.Prelude.{ℕ, ◌≡◌, ◌≤◌, List, length}
use Rattle.mem_driver.specs.Session.{Link}
use Rattle.sqlx_single.specs.Single.{Rests}
use Rattle.sqlx_steps_rules.specs.declared.event.Write.{Write}
use Rattle.sqlx_steps.specs.declared.database.Database.{Database}
use Rattle.sqlx_steps.specs.Applies.{IsAtVersion}

-- The database is at version v of these steps: its connection rests in the pool, and the store's rows are those of the version.
pub record Keeps (steps : List (List Write)) (v : ℕ) (database : Database) : Type 0 where
  pub told : database.version ≡ v
  pub within : v ≤ length steps
  pub link : Link
  pub rests : Rests link database.pool.pool
  pub number : ℕ
  pub at : IsAtVersion steps number v database.store link.side
