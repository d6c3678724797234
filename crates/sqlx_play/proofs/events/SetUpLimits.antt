-- The limits of a core's options are those that a script's first line sets.
use Rattle.std.proofs.Common.{◌≡◌, sym}
use Rattle.sqlx_pool_lists.specs.declared.options.PoolOptions.{PoolOptions}
use Rattle.sqlx_pool_lists.specs.Limits.{limits_of}
use Rattle.sqlx_script.specs.declared.pool_line.PoolLine.{PoolLine}
use Rattle.sqlx_script_rules.specs.ScriptMarks.{line_limits}
use Rattle.sqlx_play.specs.stage.StageStands.{IsSetUp}

pub limits-set_up : (pool : PoolLine) (options : PoolOptions) → IsSetUp pool options → line_limits pool ≡ limits_of options
limits-set_up pool options s = λ i. record {
  max_connections = sym s.max i;
  min_connections = sym s.min i;
  max_lifetime = sym s.lifetime i;
  idle_timeout = sym s.idle i;
}
