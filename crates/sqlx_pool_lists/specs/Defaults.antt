-- The options of a pool that nobody set.
use Rattle.std.specs.Prelude.{ℕ, ◌*◌, true, false, Some}
use Rattle.log.specs.declared.level.LevelFilter.TheVariants as filter
use Rattle.sqlx_pool_lists.specs.declared.options.PoolOptions.{PoolOptions}

-- one second, in nanoseconds
abbrev pub second : ℕ
second = 1000000000

-- at most ten connections and none kept at least, 30 s for an acquire, ten minutes idle and half an hour of age, a ping and one test a poll, no hooks
abbrev pub default_options : PoolOptions
default_options = record {
  max_connections = 10;
  min_connections = 0;
  acquire_timeout = 30 * second;
  max_lifetime = Some (1800 * second);
  idle_timeout = Some (600 * second);
  test_before_acquire = true;
  after_connect = false;
  before_acquire = false;
  after_release = false;
  acquire_time_level = filter.Off;
  acquire_slow_level = filter.Warn;
  acquire_slow_threshold = 2 * second;
  idle_tries = 1;
}
