-- Where a ticket stands among the others.
use Rattle.std.specs.Prelude.{◌≡◌, ℕ, List, ◌∷◌, ◌++◌}
use Rattle.sqlx_pool_lists.specs.declared.ticket.Ticket.{Ticket}
use Rattle.sqlx_pool_lists.specs.Edits.{with_ticket, without_ticket}

-- The only ticket of its number, between those before it and those after it.
pub record IsAmong (t : ℕ) (x : Ticket) (tickets : List Ticket) : Type 0 where
  pub front : List Ticket
  pub back : List Ticket
  pub all : tickets ≡ front ++ x ∷ back
  pub number : t ≡ x.number
  pub others : without_ticket t tickets ≡ front ++ back
  pub changed : (f : Ticket → Ticket) → with_ticket t f tickets ≡ front ++ f x ∷ back
