-- The limits of a pool, read off its options.
use Rattle.sqlx_pool_marks.specs.EventTable.{Limits}
use Rattle.sqlx_pool_lists.specs.declared.options.PoolOptions.{PoolOptions}

-- the limits that these options set
abbrev pub limits_of : PoolOptions → Limits
limits_of options = record {
  max_connections = options.max_connections;
  min_connections = options.min_connections;
  max_lifetime = options.max_lifetime;
  idle_timeout = options.idle_timeout;
}
