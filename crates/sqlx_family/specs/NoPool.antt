-- What stands where no pool was added.
use Rattle.std.specs.Prelude.{true, false, [], None}
use Rattle.log.specs.declared.level.LevelFilter.TheVariants as filter
use Rattle.sqlx_pool_lists.specs.declared.options.PoolOptions.{PoolOptions}
use Rattle.sqlx_pool_lists.specs.Core.{core_of}
use Rattle.sqlx_family.specs.declared.family.FamilyPool.{FamilyPool}

-- options that allow nothing
abbrev pub no_options : PoolOptions
no_options = record {
  max_connections = 0;
  min_connections = 0;
  acquire_timeout = 0;
  max_lifetime = None;
  idle_timeout = None;
  test_before_acquire = false;
  after_connect = false;
  before_acquire = false;
  after_release = false;
  acquire_time_level = filter.Off;
  acquire_slow_level = filter.Off;
  acquire_slow_threshold = 0;
  idle_tries = 0;
}

-- a pool that nobody added: it is closed, and holds nothing
abbrev pub no_pool : {C : Type 0} → FamilyPool C
no_pool = record { core = core_of no_options [] [] [] 0 true true 0 0 1 1 0; retired = true }
