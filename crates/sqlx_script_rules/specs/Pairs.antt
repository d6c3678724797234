-- Events and their replies.
use Rattle.std.specs.Prelude.{List}
use Rattle.sqlx_script.specs.declared.step.Event.{Event}
use Rattle.sqlx_script.specs.declared.reply.Reply.{Reply}

-- events, each with its reply, in order
abbrev pub Pairs : Type 0
Pairs = List (Event × Reply)
