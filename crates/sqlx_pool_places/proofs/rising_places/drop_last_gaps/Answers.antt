use Rattle.std.proofs.Common.{rules, tests, arith, ◌≡◌, ◌∙◌, sym, ap, subst, ◌++◌, ◌∷◌, [], Some, length, slice_get, option_to_list, ◌-◌, ◌<◌, ◌≤◌, refl}
use Rattle.std.specs.Prelude.{All}
use Rattle.std.proofs.lemmas.Option.{slice_get_read}
use Rattle.sqlx_pool_places.specs.Rising.{number_at, things_at, IsRising}
use Rattle.sqlx_pool_places.proofs.Rising.{rising-front, things-front, below-last, last-gap}
use Rattle.sqlx_pool_places.proofs.rising_places.drop_last_gaps.Goals as goal

pub loop-last-preserved : goal.loop-last-preserved
loop-last-preserved g c =
    let number = g.N.Numbering.number in
    let new = c.pop_back.new.self.items in
    let p = c.in-Some.last.now in
    let is : c.pop_back.result ≡ Some p = search (rules, tests) in
    let split : c.loop-last.places.items ≡ new ++ p ∷ [] = c.pop_back.ensures.items ∙ ap (λ o. new ++ option_to_list o) is in
    let greater : c.args.number ≤ number_at number p = search (rules, tests) in
    let below = subst (All (λ x. number x < c.args.number)) (sym c.loop-last.invariant.things ∙ ap things_at split) c.requires.last in
    let gap = last-gap number c.args.number new p below greater in
    record {
      rising = rising-front number new p (subst (IsRising number) split c.loop-last.invariant.rising);
      things = sym (things-front number new p gap) ∙ ap things_at (sym split) ∙ c.loop-last.invariant.things;
    }

pub returns-then-number-clause-below : goal.returns-then-number-clause-below
returns-then-number-clause-below g c =
    let at-end = c.loop-last.places in
    let long : at-end.len ≡ length at-end.items = at-end.ok.0 in
    let some : 0 < at-end.len = c.in-Some.ensures.variant.0 refl in
    let at : slice_get at-end.items (at-end.len - 1) ≡ Some c.in-Some.last.now = slice_get_read at-end.items at-end.len (at-end.len - 1) c.in-Some.last.now long (omega (arith, some)) c.in-Some.ensures.lookup in
    below-last g.N.Numbering.number c.args.number at-end.items (at-end.len - 1) c.in-Some.last.now c.loop-last.invariant.rising (omega (arith, some, long)) at (search (rules, tests))
