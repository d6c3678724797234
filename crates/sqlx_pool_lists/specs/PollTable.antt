-- The turn of a poll behind a list of marks, by the phase that the core keeps for its ticket.
use Rattle.std.specs.Prelude.{ℕ, Bool, true, false, List, Option, Some, None, if◌then◌else◌}
use Rattle.sqlx_pool_marks.specs.declared.mark.Mark.{Mark}
use Rattle.sqlx_pool_marks.specs.declared.turn.Turn.{Turn}
use Rattle.sqlx_pool_marks.specs.declared.turn.Turn.TheVariants.{NotHeld}
use Rattle.sqlx_pool_marks.specs.PollTable.{turn}
use Rattle.sqlx_pool_lists.specs.declared.ticket.Phase.{Phase}
use Rattle.sqlx_pool_lists.specs.declared.ticket.Phase.TheVariants as phase

-- no step of its own is under way for the ticket
abbrev pub is_at_rest : Phase → Bool
is_at_rest phase.Waiting = true
is_at_rest (phase.Backoff until) = true
is_at_rest other = false

-- until when the ticket is in backoff
abbrev pub backs_off_until : Phase → ℕ
backs_off_until (phase.Backoff until) = until
backs_off_until other = 0

-- The turn of a poll at a moment behind these marks, in a pool of this maximum that holds so many places; NotHeld where a step of the ticket is under way, or the client has no such ticket.
abbrev pub phase_turn : ℕ → ℕ → List Mark → ℕ → ℕ → ℕ → Option Phase → Turn
phase_turn max places marks client ticket moment None = NotHeld
phase_turn max places marks client ticket moment (Some phase) = if is_at_rest phase then turn max places marks client ticket moment (backs_off_until phase) else NotHeld
