use Rattle.std.proofs.Common.{◌∙◌, sym, arith}
use Rattle.sqlx_pool_places.specs.declared.rising_places.Place.TheVariants.{Here}
use Rattle.sqlx_pool_places.proofs.Rising.{rising-set}
use Rattle.sqlx_pool_lists.specs.Sound.{number_of}
use Rattle.sqlx_pool_lists.proofs.TicketPlaces.{found-at, missing, counted-at}
use Rattle.sqlx_pool_lists.proofs.tickets.Tickets.put.Goals as goal

pub overflow_sub-self : goal.overflow_sub-self
overflow_sub-self c =
    let there = c.in-Some.ensures.some in
    let counts = counted-at c.args.ticket.number c.self.inside.places.items c.in-Some.place c.in-Some.before.now there.0 in
    omega (arith, counts.gone_without, c.self.invariant.out_right, c.one_if_gone.ensures)

pub invariant_of-self : goal.invariant_of-self
invariant_of-self c =
    let there = c.in-Some.ensures.some in
    let w = c.args.ticket in
    let counts = counted-at w.number c.self.inside.places.items c.in-Some.place c.in-Some.before.now there.0 in
    record {
      rising = rising-set number_of c.self.inside.places.items c.in-Some.place _ (Here w) c.self.invariant.rising there.0 (sym there.1);
      counted_right = c.self.invariant.counted_right ∙ sym (counts.same_len w);
      out_right = omega (arith, counts.gone_with w, counts.gone_without, c.self.invariant.out_right, c.one_if_gone.ensures, c.one_if_gone-in-Some.ensures);
      few = c.self.invariant.few;
    }

pub returns-in-Some : goal.returns-in-Some
returns-in-Some c =
    let there = c.in-Some.ensures.some in
    let at = found-at 0 c.args.ticket.number c.self.inside.places.items c.in-Some.place c.in-Some.before.now c.self.invariant.rising there.0 there.1 in
    rw (← c.self.view_is) (at.changed c.args.ticket)

pub returns-in_default : goal.returns-in_default
returns-in_default c =
    let none = rw c.in_default.is at c.find_place.ensures.none in
    rw (← c.self.view_is) (sym ((missing 0 c.args.ticket.number c.self.inside.places.items none).changed c.args.ticket))
