use Rattle.std.proofs.Common.{◌≡◌, ◌++◌, drop, string_bytes}
use Rattle.sqlx_play_crowd.specs.LogText.{log_text}
use Rattle.sqlx_play_crowd.proofs.text.log_text.Given as goal

-- the text so far, with that of the marks to come, is the text of all
abbrev pub invariant-loop-at : goal.invariant-loop-at
invariant-loop-at l = string_bytes l.text ++ log_text (drop l.at l.marks) ≡ log_text l.marks
