use Rattle.std.proofs.Common.{arith}
use Rattle.sqlx_pool_places.specs.Rising.{things_at}
use Rattle.sqlx_pool_lists.proofs.TicketPlaces.{all-counted}
use Rattle.sqlx_pool_lists.proofs.tickets.Tickets.waiting.Goals as goal

pub returns : goal.returns
returns c = rw (← c.self.view_is) (omega (arith, all-counted (things_at c.self.inside.places.items), c.self.invariant.counted_right, c.self.invariant.out_right))
