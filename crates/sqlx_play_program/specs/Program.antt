-- What the program does for the words of its command line, and why it ends before.
use Rattle.std.specs.Prelude.{◌≡◌, ℕ, ◌*◌, List}
use Rattle.sqlx_lines.specs.Scripts.{script_of}
use Rattle.sqlx_script.specs.Grammar.{pool_grammar}
use Rattle.sqlx_script_made.specs.Made.{made_text}
use Rattle.sqlx_play_program.specs.declared.command.Command.{Command}
use Rattle.sqlx_play_program.specs.declared.command.Command.TheVariants.{Play, Make, Crowd, Unknown}
use Rattle.sqlx_player.specs.declared.error.PlayError.{PlayError}
use Rattle.sqlx_player.specs.declared.error.PlayError.TheVariants.{Usage}
use Rattle.sqlx_player.specs.Causes.{Shown, TookAll, TextCause, WrotePart}
use Rattle.sqlx_play.specs.Causes.{PlayCause}
use Rattle.sqlx_play.specs.Plays.{Answers}
use Rattle.sqlx_play_program.specs.MadeRuns.{Summarizes, summary_due}
use Rattle.sqlx_play_program.specs.CrowdRuns.{WritesLog, CrowdCause}

-- What was asked for was done: all bytes were read, they are a script, and its output was written; or the summary of the made script was; or the log that the crowd left.
abbrev pub Ran : Command → Shown → Type 0
Ran Play s = (bytes : List ℕ) × TookAll s.left_before s.left_now bytes × Answers bytes s.written_before s.written_now
Ran (Make lines seed) s = Summarizes lines seed s.written_before s.written_now
Ran (Crowd workers loans maximum) s = WritesLog maximum (workers * loans) s.written_before s.written_now
Ran Unknown s = ⊥

-- Why it wasn't. Of the made script's summary, or of the crowd's log, a front was written, and a write fault was counted or memory ran out.
abbrev pub RunCause : Command → Shown → PlayError → Type 0
RunCause Play s error = PlayCause s error
RunCause (Make lines seed) s error =
    TextCause (λ _. ⊥) (WrotePart s.written_before s.written_now (summary_due lines (script_of pool_grammar (made_text lines seed)))) s.write_faults_before s.write_faults_now error
RunCause (Crowd workers loans maximum) s error =
    CrowdCause maximum (workers * loans) s.written_before s.written_now s.write_faults_before s.write_faults_now error
RunCause Unknown s error = error ≡ Usage
