-- What the program does with a script.
use Rattle.std.specs.Prelude.{ℕ, List}
use Rattle.std.specs.Io.KnownBytes.{Appends}
use Rattle.sqlx_lines.specs.Scripts.{Script, IsScript}
use Rattle.sqlx_player.specs.Output.{output_of}
use Rattle.sqlx_player.specs.Causes.{Shown, TookAll}
use Rattle.sqlx_steps_rules.specs.declared.event.Event.{Event}
use Rattle.sqlx_steps_rules.specs.Rules.{steps_grammar, steps_rules}

-- All bytes were read and are a script, and its replies by the rules and the closing line were written.
pub record PlaysSteps (s : Shown) : Type 0 where
  pub bytes : List ℕ
  pub took : TookAll s.left_before s.left_now bytes
  pub script : Script (Unit {0}) Event
  pub is_script : IsScript steps_grammar bytes script
  pub written : Appends s.written_before s.written_now (output_of steps_rules script)
