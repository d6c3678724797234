use Rattle.std.proofs.Common.{rules, tests, arith, ◌≡◌, ◌<◌, ◌∙◌, ◌++◌, ◌∷◌, [], length, ap, sym, subst}
use Rattle.std.proofs.lemmas.List.{length-append}
use Rattle.std.proofs.lemmas.List.Elements.{recursion_from_All}
use Rattle.std.proofs.lemmas.Map.Views.{length-le_from_below}
use Rattle.sqlx_pool_places.specs.declared.rising_places.Place.TheVariants.{Here}
use Rattle.sqlx_pool_places.specs.Rising.{things_at}
use Rattle.sqlx_pool_places.proofs.Rising.{rising-push, things-push}
use Rattle.sqlx_pool_places.specs.Line.{ComesLast, line_of}
use Rattle.sqlx_pool_places.proofs.RisingNumbers.{joined-rises}
use Rattle.sqlx_pool_places.proofs.Edge.{sound_pushed}
use Rattle.sqlx_pool_places.proofs.line.Line.push.Goals as goal

-- each that waits has a number below the new one's
pub overflow_add-self : goal.overflow_add-self
overflow_add-self g c =
    let i = c.self.inside in
    let last = subst (λ l. ComesLast c.args.ticket l) (sym c.self.view_is) c.requires.last in
    omega (arith, length-le_from_below c.args.ticket (things_at i.places.items) c.self.invariant.sound.rising last.behind, c.self.invariant.counted_right, c.requires.numbered)

pub invariant_of-self-2 : goal.invariant_of-self-2
invariant_of-self-2 g c =
    let t = c.args.ticket in
    let i = c.self.inside in
    let ks = things_at i.places.items in
    let front = c.drop_last_gaps.new.places.items in
    let last = subst (λ l. ComesLast t l) (sym c.self.view_is) c.requires.last in
    let is : c.push_back.new.self.items ≡ front ++ Here t ∷ [] = search (rules, tests) in
    let all : things_at c.push_back.new.self.items ≡ ks ++ t ∷ [] = ap things_at is ∙ things-push (λ n. n) front t ∙ ap (λ l. l ++ t ∷ []) (c.drop_last_gaps.ensures.things ∙ c.make_room.ensures.things) in
    record {
      rising = rw is (rising-push (λ n. n) front (Here t) c.drop_last_gaps.ensures.rising c.drop_last_gaps.ensures.below);
      counted_right = omega (arith, ap length all, length-append ks (t ∷ []), c.self.invariant.counted_right);
      sound = rw all (sound_pushed t i.entitled i.edge i.moves ks c.self.invariant.sound last c.requires.numbered (joined-rises t ks c.self.invariant.sound.rising (recursion_from_All (λ n. n < t) ks last.behind)));
    }

pub returns-clause-ok : goal.returns-clause-ok
returns-clause-ok g c =
    let t = c.args.ticket in
    let i = c.self.inside in
    let front = c.drop_last_gaps.new.places.items in
    let is : c.push_back.new.self.items ≡ front ++ Here t ∷ [] = search (rules, tests) in
    rw (← c.self.view_is) (ap (λ ks. line_of ks i.edge i.moves) (ap things_at is ∙ things-push (λ n. n) front t ∙ ap (λ l. l ++ t ∷ []) (c.drop_last_gaps.ensures.things ∙ c.make_room.ensures.things)))
