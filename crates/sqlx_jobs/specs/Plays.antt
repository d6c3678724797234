-- What playing a script of a job queue is.
use Rattle.std.specs.Prelude.{ℕ, ◌≤◌, List}
use Rattle.std.specs.Io.KnownBytes.{Appends}
use Rattle.mem_store.specs.Store.{Store}
use Rattle.sqlx_lines.specs.Scripts.{Script, IsScript}
use Rattle.sqlx_player.specs.Output.{pairs_of, output_of}
use Rattle.sqlx_player.specs.Causes.{Shown, TookAll}
use Rattle.sqlx_jobs_rules.specs.declared.queue_line.QueueLine.{QueueLine}
use Rattle.sqlx_jobs_rules.specs.declared.event.Event.{Event}
use Rattle.sqlx_jobs_rules.specs.Grammar.{jobs_grammar}
use Rattle.sqlx_jobs_rules.specs.Jobs.{jobs_rules}
use Rattle.sqlx_jobs_rules.specs.Laws.{HasOneHolder, FinishesOnce, FaultsLeaveNothing}
use Rattle.sqlx_jobs.specs.Keeps.{num_works, num_writes}

-- All bytes were read and are a script, and its replies by the rules and the closing line were written. By them no job has two holders, none is finished twice, and behind a fault everything is as if its event hadn't come.
pub record PlaysJobs (s : Shown) : Type 0 where
  pub bytes : List ℕ
  pub took : TookAll s.left_before s.left_now bytes
  pub script : Script QueueLine Event
  pub is_script : IsScript jobs_grammar bytes script
  pub written : Appends s.written_before s.written_now (output_of jobs_rules script)
  pub one_holder : HasOneHolder (pairs_of jobs_rules script)
  pub finishes_once : FinishesOnce (pairs_of jobs_rules script)
  pub faults_leave_nothing : FaultsLeaveNothing script.first (pairs_of jobs_rules script)

-- That, and the database began a level for each event other than a count, and wrote a row for each reply that says so.
pub record PlaysOn (store : Store) (s : Shown) : Type 0 where
  pub plays : PlaysJobs s
  pub begun : num_works (pairs_of jobs_rules plays.script) ≤ store.runs.begun
  pub writes : num_writes (pairs_of jobs_rules plays.script) ≤ store.runs.writes
