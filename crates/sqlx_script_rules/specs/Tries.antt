-- The refused connects of a ticket, read off the events and their replies.
use Rattle.std.specs.Prelude.{ℕ, ◌+◌, ◌-◌, ◌==◌, [], ◌∷◌, if◌then◌else◌, nat_lt, Option, Some, None}
use Rattle.sqlx_pool_marks.specs.Backoff.{cap, next_wait}
use Rattle.sqlx_script.specs.declared.step.Step.{Step}
use Rattle.sqlx_script.specs.declared.step.Step.TheVariants.{Poll}
use Rattle.sqlx_script.specs.declared.reply.Reply.{Reply}
use Rattle.sqlx_script.specs.declared.reply.Reply.TheVariants.{Backoff}
use Rattle.sqlx_script_rules.specs.Pairs.{Pairs}

-- The tries of a ticket so far: when the first was made, how long the last one made it wait, and until when.
pub record Tries : Type 0 where
  pub first : ℕ
  pub wait : ℕ
  pub until : ℕ

-- the moment of the first try; m is that of a try now
abbrev pub first_try : ℕ → Option Tries → ℕ
first_try m None = m
first_try m (Some tries) = tries.first

-- the wait of the last try
abbrev pub last_wait : Option Tries → Option ℕ
last_wait None = None
last_wait (Some tries) = Some tries.wait

-- a poll at m was answered by a backoff: before the last try is due that is no new try
abbrev pub backed_off : ℕ → ℕ → Option Tries → Option Tries
backed_off m until None = Some (record { first = m; wait = until - m; until = until })
backed_off m until (Some tries) = if nat_lt m tries.until then Some tries else Some (record { first = tries.first; wait = until - m; until = until })

-- the tries of a ticket behind one more event and its reply
abbrev pub tried : ℕ → Option Tries → ℕ → Step → Reply → Option Tries
tried t tries m (Poll client ticket answers) (Backoff until) = if t == ticket then backed_off m until tries else tries
tried t tries m step reply = tries

-- the tries of a ticket, and then those of these events
unfoldable pub tries_after : ℕ → Option Tries → Pairs → Option Tries
tries_after t tries [] = tries
tries_after t tries (pair ∷ pairs) = tries_after t (tried t tries pair.0.moment.0 pair.0.step pair.1) pairs

-- the tries of a ticket
abbrev pub tries_of : ℕ → Pairs → Option Tries
tries_of t pairs = tries_after t None pairs

-- until when a try at m that is refused makes a ticket of this deadline wait
abbrev pub until_after : ℕ → ℕ → Option Tries → ℕ
until_after m deadline tries = m + next_wait (cap deadline (first_try m tries)) (last_wait tries)

-- until when the last try makes the ticket wait
abbrev pub until_of : Option Tries → ℕ
until_of None = 0
until_of (Some tries) = tries.until
