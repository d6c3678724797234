-- When a stage stands for a first line, and for events and replies behind it.
use Rattle.std.specs.Prelude.{◌≡◌, ℕ, ◌+◌, ◌*◌, ◌≤◌, length}
use Rattle.sqlx_player.specs.Language.{events_of}
use Rattle.sqlx_script.specs.declared.pool_line.PoolLine.{PoolLine}
use Rattle.sqlx_script.specs.Grammar.{last_moment}
use Rattle.sqlx_script_rules.specs.Pairs.{Pairs}
use Rattle.sqlx_play.specs.stage.Scene.{Scene}
use Rattle.sqlx_play.specs.stage.StageStands.{StageStands, last_of, numbers_of}
use Rattle.sqlx_play.specs.ScriptRuns.{runs_of}

-- The stage is as it is after these events and replies, the last of them at this moment.
pub record StandsAt (stage : Scene) (last : ℕ) (pool : PoolLine) (pairs : Pairs) : Type 0 where
  pub set_up : stage.pool ≡ pool
  pub stands : StageStands stage pairs
  pub runs : stage.out.store.runs ≡ runs_of pairs
  pub moment : last ≡ last_moment (events_of pairs)
  pub reached : last_of stage ≤ last
  pub numbers : numbers_of stage ≤ 2 + 1048576 * length pairs
  pub tries : 1 ≤ pool.tries
