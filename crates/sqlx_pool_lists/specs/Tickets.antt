-- The tickets that haven't ended, at places in the order of their numbers.
use Rattle.std.specs.Prelude.{◌≡◌, ℕ, ◌≤◌, ◌^◌, List, length}
use Rattle.sqlx_pool_places.specs.declared.rising_places.Place.{Place}
use Rattle.sqlx_pool_places.specs.Rising.{things_at, IsRising}
use Rattle.sqlx_pool_lists.specs.declared.ticket.Ticket.{Ticket}
use Rattle.sqlx_pool_lists.specs.Core.{gone}
use Rattle.sqlx_pool_lists.specs.Sound.{number_of}

-- The numbers rise, the tickets and those that have left the line are counted, and there aren't more than memory could hold.
pub record AreKept (places : List (Place Ticket)) (counted out : ℕ) : Type 0 where
  pub rising : IsRising number_of places
  pub counted_right : counted ≡ length (things_at places)
  pub out_right : out ≡ gone (things_at places)
  pub few : counted ≤ 2 ^ 57
