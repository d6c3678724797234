-- When a runner stands for events and replies.
use Rattle.std.specs.Prelude.{◌≡◌, true, false, length, [], ◌∷◌, ◌++◌}
use Rattle.sqlx_player.specs.Language.{Pairs, events_of}
use Rattle.sqlx_steps_rules.specs.declared.event.Event.{Event}
use Rattle.sqlx_steps_rules.specs.declared.reply.Reply.{Reply}
use Rattle.sqlx_steps_rules.specs.Grammar.{is_in_place}
use Rattle.sqlx_steps_rules.specs.Rules.{steps_of, have_ended, version_of, answer_at}
use Rattle.sqlx_steps.specs.declared.runner.StepRunner.{StepRunner}
use Rattle.sqlx_steps.specs.Keeps.{Keeps}

-- The runner has the steps that the events define, and its database is at the version of the last apply. No step is applied while steps are defined.
pub record StandsFor (runner : StepRunner) (pairs : Pairs Event Reply) : Type 0 where
  pub steps : runner.definitions ≡ steps_of (events_of pairs)
  pub ended : runner.ended ≡ have_ended (events_of pairs)
  pub version : runner.database.version ≡ version_of pairs
  pub fresh : runner.ended ≡ false → runner.database.version ≡ 0
  pub keeps : Keeps runner.definitions runner.database.version runner.database

-- An event may come, behind some events and replies that the runner stands for.
pub record IsReady (runner : StepRunner) (event : Event) : Type 0 where
  pub pairs : Pairs Event Reply
  pub stands : StandsFor runner pairs
  pub in_place : is_in_place (length runner.definitions) runner.ended event ≡ true

-- The reply is the one that the rules give behind these events and replies, and the runner stands for the event and its reply too.
pub record AnswersSo (pairs : Pairs Event Reply) (event : Event) (reply : Reply) (runner : StepRunner) : Type 0 where
  pub due : reply ≡ answer_at (steps_of (events_of pairs)) (version_of pairs) event
  pub stands : StandsFor runner (pairs ++ (event, reply) ∷ [])
