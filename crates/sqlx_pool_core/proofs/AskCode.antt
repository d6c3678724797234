-- What the code of an ask writes is what an ask makes.
use Rattle.std.proofs.Common.{◌≡◌, ℕ, ◌+◌, false, List, [], ◌∷◌, ◌++◌, None, subst}
use Rattle.sqlx_pool_marks.specs.declared.mark.Mark.{Mark}
use Rattle.sqlx_pool_marks.specs.declared.mark.Mark.TheVariants.{Asked}
use Rattle.sqlx_pool_lists.specs.declared.ticket.Ticket.{Ticket}
use Rattle.sqlx_pool_lists.specs.declared.ticket.Phase.TheVariants as phase
use Rattle.sqlx_pool_lists.specs.Core.{Core}
use Rattle.sqlx_pool_lists.specs.Sound.{IsSound}
use Rattle.sqlx_pool_lists.specs.StandsFor.{StandsIn}
use Rattle.sqlx_pool_lists.specs.Makes.{MakesIn}
use Rattle.sqlx_pool_core.proofs.PollMakes.{makes-asked}

asks_makes : {C : Type 0} (core : Core C) (k deadline m : ℕ) (tickets : List Ticket) (marks : List Mark) → IsSound core
    → tickets ≡ core.tickets ++ (record { number = core.next_ticket; client = k; deadline = deadline; phase = phase.Waiting; first_try = record { 0 = 0 }; last_wait = None }) ∷ []
    → core.closed ≡ false → StandsIn core marks
    → MakesIn core.options.max_connections marks (Asked core.next_ticket k deadline ∷ []) (record core { tickets = tickets; next_ticket = core.next_ticket + 1; last = m })
asks_makes core k deadline m tickets marks sound e shut s = rw e (makes-asked core marks sound s k deadline m (sound.own shut))

pub asking-makes : {C : Type 0} (core now : Core C) (k deadline m : ℕ) (tickets : List Ticket) (marks : List Mark) → core ≡ now → IsSound core
    → tickets ≡ core.tickets ++ (record { number = core.next_ticket; client = k; deadline = deadline; phase = phase.Waiting; first_try = record { 0 = 0 }; last_wait = None }) ∷ []
    → now.closed ≡ false → StandsIn now marks
    → MakesIn now.options.max_connections marks (Asked now.next_ticket k deadline ∷ []) (record core { tickets = tickets; next_ticket = core.next_ticket + 1; last = m })
asking-makes {C} core now k deadline m tickets marks view sound e =
    subst (λ (n : Core C). n.closed ≡ false → StandsIn n marks
    → MakesIn n.options.max_connections marks (Asked n.next_ticket k deadline ∷ []) (record core { tickets = tickets; next_ticket = core.next_ticket + 1; last = m })) view
    (asks_makes core k deadline m tickets marks sound e)
