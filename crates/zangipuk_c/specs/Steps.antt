-- A step, from what lay in a room to what lies there then, and its answer.
use Rattle.std.specs.Prelude.{◌≡◌, ℕ, true, nat_lt, Option, Some, None, Box, box_value}
use Rattle.std.specs.declared.alloc.Global.{Global}
use Rattle.sqlx_pool_lists.specs.CoreTurn.{is_first_in_line}
use Rattle.sqlx_pool_lists.specs.PollSteps.{phase_for, is_in_line}
use Rattle.zangipuk_c.specs.declared.held.Kept.{Kept}
use Rattle.zangipuk_c.specs.declared.reply.Reply.{Reply}
use Rattle.zangipuk_c.specs.declared.told.Told.{Told}
use Rattle.zangipuk_c.specs.declared.told.Step.{Step}
use Rattle.zangipuk_c.specs.Told.{step_by}
use Rattle.zangipuk_c.specs.Replies.{plain_reply}
use Rattle.zangipuk_c.specs.Continues.{Continues}
use Rattle.zangipuk_c.specs.Answers.{Answers, left_after}

-- What the numbers of a call tell a step.
abbrev pub told_by : ℕ → ℕ → ℕ → ℕ → ℕ → Told
told_by client ticket conn raw now = record { client = client; ticket = ticket; conn = conn; raw = raw; now = now }

-- A step of a pool, whatever it is told: the pool's log goes on fairly, the answer is the pool's, and a ticket that waits is entitled exactly where its number is below the edge.
pub record IsStep (step : Step) (told : Told) (old new : Kept) (reply : Reply) : Type 0 where
  pub continues : Continues old new
  pub left : new.left.items ≡ left_after step old
  pub said : Reply
  pub answers : Answers step told old said
  pub replies : reply ≡ record said { edge = new.core.edge }
  pub entitles : (client ticket : ℕ) → is_in_line (phase_for client ticket new.core.pool.tickets) ≡ true → is_first_in_line ticket new.core.pool ≡ nat_lt ticket reply.edge

-- The same of what lies in a room: a pool is let go by the code 0 and no other, and none comes from nothing.
abbrev pub Steps : ℕ → Told → Option (Box Kept Global) → Option (Box Kept Global) → Reply → Type 0
Steps code told (Some old) (Some new) reply = (code ≡ 0 → ⊥) × IsStep (step_by code) told (box_value old) (box_value new) reply
Steps code told (Some old) None reply = (code ≡ 0) × (reply ≡ plain_reply 11)
Steps code told None (Some new) reply = ⊥
Steps code told None None reply = reply ≡ plain_reply 0
