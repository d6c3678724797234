-- What playing one event is.
use Rattle.std.specs.Prelude.{◌≡◌, [], ◌∷◌, ◌++◌}
use Rattle.sqlx_script.specs.declared.step.Event.{Event}
use Rattle.sqlx_script.specs.declared.reply.Reply.{Reply}
use Rattle.sqlx_play.specs.stage.Scene.{Scene}
use Rattle.sqlx_script_rules.specs.Answer.{answer}
use Rattle.sqlx_play.specs.stage.StageStands.{StageStands}
use Rattle.sqlx_script_rules.specs.Pairs.{Pairs}

-- Whatever events and replies the stage stands for, the reply is the answer to the event behind them, and then the stage stands for that pair too.
abbrev pub PlaysEvent : Scene → Scene → Event → Reply → Type 0
PlaysEvent old new event reply = (pairs : Pairs) → StageStands old pairs → (reply ≡ answer old.pool pairs event) × StageStands new (pairs ++ (event, reply) ∷ [])
