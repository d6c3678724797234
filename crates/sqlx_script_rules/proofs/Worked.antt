-- What worked scripts are made of.
use Rattle.std.specs.Prelude.{ℕ, true, false, None}
use Rattle.sqlx_script.specs.declared.answers.HookAnswer.TheVariants as hook
use Rattle.sqlx_script.specs.declared.answers.AfterConnectAnswer.TheVariants as set_up
use Rattle.sqlx_script.specs.declared.answers.ConnectAnswer.TheVariants as connect
use Rattle.sqlx_script.specs.declared.answers.PollAnswers.{PollAnswers}
use Rattle.sqlx_script.specs.declared.answers.GiveAnswers.{GiveAnswers}
use Rattle.sqlx_script.specs.declared.pool_line.PoolLine.{PoolLine}
use Rattle.sqlx_script.specs.declared.step.Event.{Event}
use Rattle.sqlx_script.specs.declared.step.Step.{Step}

-- a pool of this maximum and timeout, without minimum, limits and switches
abbrev pub plain_pool : ℕ → ℕ → PoolLine
plain_pool max timeout = record { max = max; min = 0; timeout = timeout; lifetime = None; idle = None; test_before_acquire = false; after_connect = false; before_acquire = false; after_release = false; tries = 1; counts_tests = false }

-- everything that a poll asks is answered well
abbrev pub good : PollAnswers
good = record { ping = true; before_acquire = hook.Accepts; connect = connect.Connected; after_connect = set_up.SetUp; tests = 1 }

-- the connect is refused for a cause that may pass
abbrev pub refused_for_now : PollAnswers
refused_for_now = record good { connect = connect.Transient }

-- everything that a give asks is answered well
abbrev pub returns_well : GiveAnswers
returns_well = record { after_release = hook.Accepts; ping = true }

-- a step at a moment, in nanoseconds
abbrev pub at : ℕ → Step → Event
at m s = record { moment = record { 0 = m }; step = s }
