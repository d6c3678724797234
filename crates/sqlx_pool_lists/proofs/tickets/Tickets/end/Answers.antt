use Rattle.std.proofs.Common.{◌∙◌, sym, ap, arith, length}
use Rattle.sqlx_pool_lists.specs.Core.{gone}
use Rattle.sqlx_pool_places.specs.declared.rising_places.Place.TheVariants.{Gap}
use Rattle.sqlx_pool_places.proofs.Rising.{rising-set}
use Rattle.sqlx_pool_lists.specs.Sound.{number_of}
use Rattle.sqlx_pool_lists.proofs.TicketPlaces.{found-at, missing, counted-at}
use Rattle.sqlx_pool_lists.proofs.tickets.Tickets.end.Goals as goal

pub overflow_sub-self : goal.overflow_sub-self
overflow_sub-self c =
    let counts = counted-at c.args.number c.self.inside.places.items c.in-Some.place c.in-Some.ended.now c.in-Some.ensures.some.0 in
    omega (arith, counts.gone_without, c.self.invariant.out_right, c.one_if_gone.ensures)

pub overflow_sub-self-in-Some : goal.overflow_sub-self-in-Some
overflow_sub-self-in-Some c =
    let counts = counted-at c.args.number c.self.inside.places.items c.in-Some.place c.in-Some.ended.now c.in-Some.ensures.some.0 in
    omega (arith, counts.len, c.self.invariant.counted_right)

pub drop_first_gaps-requires : goal.drop_first_gaps-requires
drop_first_gaps-requires c =
    let there = c.in-Some.ensures.some in
    rising-set number_of c.self.inside.places.items c.in-Some.place _ (Gap c.args.number) c.self.invariant.rising there.0 (sym there.1)

pub invariant_of-self : goal.invariant_of-self
invariant_of-self c =
    let counts = counted-at c.args.number c.self.inside.places.items c.in-Some.place c.in-Some.ended.now c.in-Some.ensures.some.0 in
    let same = c.drop_first_gaps.ensures.things in
    record {
      rising = c.drop_first_gaps.ensures.rising;
      counted_right = omega (arith, ap length same, counts.len, c.self.invariant.counted_right);
      out_right = omega (arith, ap gone same, counts.gone_without, c.self.invariant.out_right, c.one_if_gone.ensures);
      few = omega (arith, c.self.invariant.few);
    }

pub returns-in-Some : goal.returns-in-Some
returns-in-Some c =
    let there = c.in-Some.ensures.some in
    let at = found-at 0 c.args.number c.self.inside.places.items c.in-Some.place c.in-Some.ended.now c.self.invariant.rising there.0 there.1 in
    rw (← c.self.view_is) (c.drop_first_gaps.ensures.things ∙ at.ended)

pub returns-in_default : goal.returns-in_default
returns-in_default c =
    let none = rw c.in_default.is at c.find_place.ensures.none in
    rw (← c.self.view_is) (sym (missing 0 c.args.number c.self.inside.places.items none).ended)
