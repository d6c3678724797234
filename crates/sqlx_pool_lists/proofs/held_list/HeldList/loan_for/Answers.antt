use Rattle.std.proofs.Common.{◌∙◌, sym}
use Rattle.sqlx_pool_lists.specs.HeldList.{loans_at}
use Rattle.sqlx_pool_lists.proofs.HeldLists.{at-place, none-there, equal-number, held-by, held-by-other}
use Rattle.sqlx_pool_lists.proofs.held_list.HeldList.loan_for.Goals as goal

pub returns-in_err-held : goal.returns-in_err-held
returns-in_err-held c =
    let none = rw c.deref.ensures.value at (rw c.in_err-held.was at c.find.ensures.none) in
    rw (← c.self.view_is) (c.from_residual.ensures ∙ sym (none-there c.args.client c.args.conn (loans_at c.self.inside.places.items) none).0)

pub returns-then-client-held : goal.returns-then-client-held
returns-then-client-held c =
    let there = rw c.deref.ensures.value at c.in_ok-held.ensures.some in
    let at = at-place c.args.client c.args.conn c.self.inside.places.items _ c.in_ok-held.held there.0 (equal-number _ _ there.1) (rw (← c.self.view_is) at c.requires) in
    rw (← c.self.view_is) (sym (at.found ∙ held-by c.args.client c.in_ok-held.held.client c.in_ok-held.held c.if-client-held.true))

pub returns-else-client-held : goal.returns-else-client-held
returns-else-client-held c =
    let there = rw c.deref.ensures.value at c.in_ok-held.ensures.some in
    let at = at-place c.args.client c.args.conn c.self.inside.places.items _ c.in_ok-held.held there.0 (equal-number _ _ there.1) (rw (← c.self.view_is) at c.requires) in
    rw (← c.self.view_is) (sym (at.found ∙ held-by-other c.args.client c.in_ok-held.held.client c.in_ok-held.held c.if-client-held.false))
