-- What a stage is to its definitions: the edge that the pool keeps of its line is left out.
use Rattle.sqlx_script.specs.declared.pool_line.PoolLine.{PoolLine}
use Rattle.sqlx_pool_lists.specs.Core.{Core}
use Rattle.mem_store.specs.Store.{Link}
use Rattle.sqlx_play.specs.declared.outside.ScriptOutside.{ScriptOutside}
use Rattle.sqlx_play.specs.declared.stage.Stage.{Stage}
use Rattle.sqlx_play.specs.stage.LentLinks.{LentQueue}

-- The first line, the pool, its outside, and the connections that clients own, in the order of lending.
pub record Scene : Type 0 where
  pub pool : PoolLine
  pub core : Core Link
  pub out : ScriptOutside
  pub lent : LentQueue

-- what a stage is
abbrev pub scene_of : Stage → Scene
scene_of stage = record { pool = stage.pool; core = stage.core.pool; out = stage.out; lent = stage.lent }
