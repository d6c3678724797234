use Rattle.std.proofs.Common.{◌≡◌, ◌∷◌, ◌++◌, [], ◌∙◌, ◌<◌, ap, sym, subst, arith, rules, tests, length}
use Rattle.std.specs.Prelude.{All}
use Rattle.std.proofs.lemmas.List.{length-append}
use Rattle.std.proofs.lemmas.Bool.Decides.{nat_tests}
use Rattle.sqlx_pool_lists.specs.declared.ticket.Ticket.{Ticket}
use Rattle.sqlx_pool_places.specs.declared.rising_places.Place.TheVariants.{Here}
use Rattle.sqlx_pool_lists.specs.Core.{gone}
use Rattle.sqlx_pool_places.specs.Rising.{things_at}
use Rattle.sqlx_pool_places.proofs.Rising.{rising-push, things-push}
use Rattle.sqlx_pool_lists.specs.Sound.{number_of}
use Rattle.sqlx_pool_lists.proofs.TicketPlaces.{one, gone-push}
use Rattle.sqlx_pool_lists.proofs.tickets.Tickets.push.Goals as goal

pub drop_last_gaps-requires-clause-last : goal.drop_last_gaps-requires-clause-last
drop_last_gaps-requires-clause-last c = subst (All (λ (x : Ticket). x.number < c.args.ticket.number)) (sym c.make_room.ensures.things) (rw c.self.view_is c.requires.last)

pub invariant_of-self-2 : goal.invariant_of-self-2
invariant_of-self-2 c =
    let w = c.args.ticket in
    let front = c.drop_last_gaps.new.places.items in
    let is : c.push_back.new.self.items ≡ front ++ Here w ∷ [] = search (rules, tests) in
    let same = c.drop_last_gaps.ensures.things ∙ c.make_room.ensures.things in
    let still : one w ≡ 0 = search (rules, tests) in
    let all = things-push number_of front w in
    record {
      rising = rw is (rising-push number_of front (Here w) c.drop_last_gaps.ensures.rising c.drop_last_gaps.ensures.below);
      counted_right = rw is (omega (arith, ap length all, length-append (things_at front) (w ∷ []), ap length same, c.self.invariant.counted_right));
      out_right = rw is (omega (arith, ap gone all, gone-push (things_at front) w, ap gone same, still, c.self.invariant.out_right));
      few = grind (arith, nat_tests, c.if-self-eq-MOST, c.self.invariant.few);
    }

pub returns-clause-ok : goal.returns-clause-ok
returns-clause-ok c =
    let w = c.args.ticket in
    let front = c.drop_last_gaps.new.places.items in
    let is : c.push_back.new.self.items ≡ front ++ Here w ∷ [] = search (rules, tests) in
    let same = c.drop_last_gaps.ensures.things ∙ c.make_room.ensures.things in
    rw (← c.self.view_is) (ap things_at is ∙ things-push number_of front w ∙ ap (λ l. l ++ w ∷ []) same)
