-- What a connect that a poll makes comes to, by the reply to it.
use Rattle.std.specs.Prelude.{ℕ, List, [], ◌∷◌}
use Rattle.sqlx_text.specs.declared.Moment.{Moment}
use Rattle.sqlx_pool_marks.specs.declared.mark.Mark.{Mark}
use Rattle.sqlx_pool_marks.specs.declared.mark.Mark.TheVariants as mark
use Rattle.sqlx_pool_lists.specs.declared.ticket.Ticket.{Ticket}
use Rattle.sqlx_pool_lists.specs.Core.{Core}
use Rattle.sqlx_pool_lists.specs.Edits.{with_ticket, to_back_off, at_moment, core_without_ticket, lent_to, opened}
use Rattle.sqlx_pool_lists.specs.PollSteps.{wait_of}
use Rattle.sqlx_script.specs.declared.reply.Reply.{Reply}
use Rattle.sqlx_script.specs.declared.reply.Reply.TheVariants as reply
use Rattle.mem_store.specs.Store.{Store, connected, closed_at}

-- the marks: a new connection is lent, or the ticket ends, or nothing is marked
abbrev pub connect_marks : ℕ → ℕ → ℕ → Reply → List Mark
connect_marks client ticket m (reply.Ready c) = mark.Opened c m ∷ mark.Lent client c ∷ mark.Ended ticket ∷ []
connect_marks client ticket m reply.Io = mark.Ended ticket ∷ []
connect_marks client ticket m reply.DatabaseRefused = mark.Ended ticket ∷ []
connect_marks client ticket m other = []

-- the ticket waits until then for its next try
abbrev pub backing_off : {C : Type 0} → ℕ → ℕ → ℕ → Core C → Core C
backing_off ticket m until core = at_moment m (record core { tickets = with_ticket ticket (λ (x : Ticket). to_back_off (wait_of x) until x) core.tickets })

-- the core after it
abbrev pub after_connect : {C : Type 0} → ℕ → ℕ → Moment → Reply → Core C → Core C
after_connect client ticket moment (reply.Ready c) core = at_moment moment.0 (core_without_ticket ticket (lent_to client c moment (opened core)))
after_connect client ticket moment (reply.Backoff until) core = backing_off ticket moment.0 until core
after_connect client ticket moment reply.Io core = at_moment moment.0 (core_without_ticket ticket core)
after_connect client ticket moment reply.DatabaseRefused core = at_moment moment.0 (core_without_ticket ticket core)
after_connect client ticket moment other core = core

-- the store after a connection was opened and closed again
abbrev pub rejected : ℕ → Store → Store
rejected number store = closed_at 0 (connected number store)
