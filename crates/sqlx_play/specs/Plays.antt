-- What playing a script is: all of its output was written, and the headline holds.
use Rattle.std.specs.Prelude.{◌≡◌, ℕ, ℤ, List, Option}
use Rattle.std.specs.FinMap.{get}
use Rattle.std.specs.Io.KnownBytes.{Appends}
use Rattle.sqlx_lines.specs.Scripts.{Script, IsScript}
use Rattle.sqlx_player.specs.Output.{pairs_of, output_of}
use Rattle.sqlx_script.specs.declared.pool_line.PoolLine.{PoolLine}
use Rattle.sqlx_script.specs.declared.step.Event.{Event}
use Rattle.sqlx_script.specs.Grammar.{pool_grammar}
use Rattle.sqlx_pool_lists.specs.Core.{Core}
use Rattle.sqlx_pool_lists.specs.StandsFor.{StandsFor}
use Rattle.mem_store.specs.Store.{Store, Link}
use Rattle.sqlx_savepoints.specs.Brackets.{value}
use Rattle.sqlx_script_rules.specs.ScriptMarks.{marks_of}
use Rattle.sqlx_script_rules.specs.ScriptLevels.{history_of}
use Rattle.sqlx_script_rules.specs.Output.{pool_rules}
use Rattle.sqlx_script_rules.specs.Headline.{HoldsHeadline}
use Rattle.sqlx_play.specs.stage.StageStands.{IsSetUp}
use Rattle.sqlx_play.specs.ScriptRuns.{runs_of}

-- The bytes are a script, whose output was written and for which the headline holds. The core has the script's options, holds no place and stands for the marks of its events and replies, the store's rows are what a connection that was never opened sees, and the store counted each text that ran.
pub record Plays (bytes : List ℕ) (before now : Option (List ℕ)) (core : Core Link) (store : Store) : Type 0 where
  pub script : Script PoolLine Event
  pub is_script : IsScript pool_grammar bytes script
  pub written : Appends before now (output_of pool_rules script)
  pub headline : HoldsHeadline script.first (pairs_of pool_rules script)
  pub set_up : IsSetUp script.first core.options
  pub places : core.places ≡ 0
  pub core_after : StandsFor core (marks_of script.first (pairs_of pool_rules script))
  pub rows_after : (key : ℤ) → get store.rows key ≡ value core.next_conn key (history_of script.first (pairs_of pool_rules script))
  pub runs_after : store.runs ≡ runs_of (pairs_of pool_rules script)

-- The bytes are a script, whose output was written and for which the headline holds.
pub record Answers (bytes : List ℕ) (before now : Option (List ℕ)) : Type 0 where
  pub script : Script PoolLine Event
  pub is_script : IsScript pool_grammar bytes script
  pub written : Appends before now (output_of pool_rules script)
  pub headline : HoldsHeadline script.first (pairs_of pool_rules script)
