-- What an event leaves of a stage beside what it does.
use Rattle.std.specs.Prelude.{◌≡◌, ℕ, ◌+◌, ◌^◌, ◌≤◌, Result, IfOk}
use Rattle.sqlx_text.specs.declared.out_of_memory.OutOfMemory.{OutOfMemory}
use Rattle.sqlx_script.specs.declared.step.Event.{Event}
use Rattle.sqlx_script.specs.declared.reply.Reply.{Reply}
use Rattle.sqlx_play.specs.stage.Scene.{Scene}
use Rattle.sqlx_play.specs.ScriptRuns.{runs_after}
use Rattle.sqlx_play.specs.stage.StageStands.{last_of, numbers_of}

-- What a part of an event leaves of a stage, by a moment and a bound of the numbers that it draws.
pub record Frame (old new : Scene) (moment more : ℕ) : Type 0 where
  -- the first line of the script stays
  pub pool : new.pool ≡ old.pool
  -- the last moment is this one at the latest
  pub last : last_of new ≤ moment
  -- so many numbers more are used up at the most
  pub used : numbers_of new ≤ numbers_of old + more

-- What an event leaves of a stage, by what it comes to.
pub record EventFrame (old new : Scene) (event : Event) (result : Result Reply OutOfMemory) : Type 0 where
  -- the first line stays, the last moment is the event's at the latest, and few numbers are used up
  pub frame : Frame old new event.moment.0 (2 ^ 20)
  -- the store counted the text that ran for the reply
  pub runs : IfOk result (λ reply. new.out.store.runs ≡ runs_after event.step reply old.out.store.runs)
