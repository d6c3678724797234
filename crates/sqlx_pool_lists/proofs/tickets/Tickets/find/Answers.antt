use Rattle.std.proofs.Common.{◌∙◌, sym}
use Rattle.sqlx_pool_lists.proofs.TicketPlaces.{found-at, missing, mine, another}
use Rattle.sqlx_pool_lists.proofs.tickets.Tickets.find.Goals as goal

pub returns-in_err-found : goal.returns-in_err-found
returns-in_err-found c =
    let none = rw c.in_err-found.was at c.find_place.ensures.none in
    rw (← c.self.view_is) (c.from_residual.ensures ∙ sym (missing c.args.client c.args.number c.self.inside.places.items none).found)

pub returns-then-found-client : goal.returns-then-found-client
returns-then-found-client c =
    let there = c.in_ok-found.ensures.some in
    let at = found-at c.args.client c.args.number c.self.inside.places.items _ c.in_ok-found.found.now c.self.invariant.rising there.0 there.1 in
    rw (← c.self.view_is) (sym (at.found ∙ mine c.args.client c.in_ok-found.found.now c.if-found-client.true))

pub returns-else-found-client : goal.returns-else-found-client
returns-else-found-client c =
    let there = c.in_ok-found.ensures.some in
    let at = found-at c.args.client c.args.number c.self.inside.places.items _ c.in_ok-found.found.now c.self.invariant.rising there.0 there.1 in
    rw (← c.self.view_is) (sym (at.found ∙ another c.args.client c.in_ok-found.found.now c.if-found-client.false))
