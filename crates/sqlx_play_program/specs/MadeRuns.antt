-- What is written for the made script.
use Rattle.std.specs.Prelude.{ℕ, List, [], ◌∷◌, ◌++◌, map, Option, Some, None}
use Rattle.std.specs.Io.KnownBytes.{Appends}
use Rattle.sqlx_lines.specs.Scripts.{Script, IsScript}
use Rattle.sqlx_player.specs.Output.{pairs_of, closing_text}
use Rattle.sqlx_script.specs.declared.pool_line.PoolLine.{PoolLine}
use Rattle.sqlx_script.specs.declared.step.Event.{Event}
use Rattle.sqlx_script.specs.Grammar.{pool_grammar}
use Rattle.sqlx_script_rules.specs.Output.{reply_line, pool_rules}
use Rattle.sqlx_script_made.specs.Made.{made_text}
use Rattle.sqlx_script_made.specs.Summary.{summary_text}

-- the summary of a script of so many lines, by the replies to its events and its closing report
abbrev pub summary_of : ℕ → Script PoolLine Event → List ℕ
summary_of count script = summary_text count (map reply_line (pairs_of pool_rules script) ++ closing_text pool_rules script ∷ [])

-- what is to be written for a script of so many lines, if it is one
abbrev pub summary_due : ℕ → Option (Script PoolLine Event) → List ℕ
summary_due count None = []
summary_due count (Some script) = summary_of count script

-- The made script of so many lines is a script, and its summary was written.
pub record Summarizes (count seed : ℕ) (before now : Option (List ℕ)) : Type 0 where
  pub script : Script PoolLine Event
  pub is_script : IsScript pool_grammar (made_text count seed) script
  pub written : Appends before now (summary_of count script)
