use Rattle.std.proofs.Common.{◌∙◌, sym, arith}
use Rattle.std.proofs.lemmas.Option.{slice_get_within}
use Rattle.sqlx_pool_lists.specs.HeldList.{loans_at}
use Rattle.sqlx_pool_lists.proofs.HeldLists.{at-place, none-there, equal-number, held-by, held-by-other}
use Rattle.sqlx_pool_lists.proofs.held_list.HeldList.take.Goals as goal

pub returns-in_err-place-clause-answer : goal.returns-in_err-place-clause-answer
returns-in_err-place-clause-answer c =
    let none = rw c.deref.ensures.value at (rw c.in_err-place.was at c.find.ensures.none) in
    rw (← c.self.view_is) (c.from_residual.ensures ∙ sym (none-there c.args.client c.args.conn (loans_at c.self.inside.places.items) none).0)

pub returns-then-client-held-clause-answer : goal.returns-then-client-held-clause-answer
returns-then-client-held-clause-answer c =
    let there = rw c.deref.ensures.value at c.in_ok-place.ensures.some in
    let at = at-place c.args.client c.args.conn c.self.inside.places.items _ c.in_ok-place.held there.0 (equal-number _ _ there.1) (rw (← c.self.view_is) at c.requires) in
    rw (← c.self.view_is) (sym (at.found ∙ held-by-other c.args.client c.in_ok-place.held.client c.in_ok-place.held c.if-client-held.true))

pub leave-requires : goal.leave-requires
leave-requires c =
    let there = rw c.deref.ensures.value at c.in_ok-place.ensures.some in
    slice_get_within c.self.inside.places.items c.in_ok-place.place _ there.0

pub overflow_sub-self : goal.overflow_sub-self
overflow_sub-self c =
    let there = rw c.deref.ensures.value at c.in_ok-place.ensures.some in
    let at = at-place c.args.client c.args.conn c.self.inside.places.items c.in_ok-place.place c.in_ok-place.held there.0 (equal-number _ _ there.1) (rw (← c.self.view_is) at c.requires) in
    let n = at.count in
    let len = c.self.invariant.counted_right in
    omega (arith, n, len)

pub invariant_of-self : goal.invariant_of-self
invariant_of-self c =
    let there = rw c.deref.ensures.value at c.in_ok-place.ensures.some in
    let at = at-place c.args.client c.args.conn c.self.inside.places.items c.in_ok-place.place c.in_ok-place.held there.0 (equal-number _ _ there.1) (rw (← c.self.view_is) at c.requires) in
    record {
      found = λ t. c.leave.ensures.noted _ (c.self.invariant.found t);
      counted_right = let n = at.count in let len = c.self.invariant.counted_right in rw c.leave.ensures.left (omega (arith, n, len));
      fits = rw c.leave.ensures.capacity c.self.invariant.fits;
    }

pub returns-clause-answer : goal.returns-clause-answer
returns-clause-answer c =
    let there = rw c.deref.ensures.value at c.in_ok-place.ensures.some in
    let at = at-place c.args.client c.args.conn c.self.inside.places.items _ c.in_ok-place.held there.0 (equal-number _ _ there.1) (rw (← c.self.view_is) at c.requires) in
    rw (← c.self.view_is) (sym (at.found ∙ held-by c.args.client c.in_ok-place.held.client c.in_ok-place.held c.if-client-held.false))

pub returns-clause-some : goal.returns-clause-some
returns-clause-some c = λ t.
    let there = rw c.deref.ensures.value at c.in_ok-place.ensures.some in
    let at = at-place c.args.client c.args.conn c.self.inside.places.items c.in_ok-place.place c.in_ok-place.held there.0 (equal-number _ _ there.1) (rw (← c.self.view_is) at c.requires) in
    rw (← c.self.view_is) (c.leave.ensures.left ∙ sym at.left)
