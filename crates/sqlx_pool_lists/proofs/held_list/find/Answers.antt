use Rattle.std.proofs.Common.{◌∙◌, sym}
use Rattle.sqlx_pool_lists.proofs.HeldLists.{noted-none, noted-other}
use Rattle.sqlx_pool_lists.proofs.held_list.find.Goals as goal

pub returns-in_err-place-clause-none : goal.returns-in_err-place-clause-none
returns-in_err-place-clause-none c = rw c.from_residual.ensures (noted-none c.args.conn c.args.places.now _ (c.requires c.if-not-all_noted.false) (sym c.get.ensures.value ∙ sym c.copied.ensures ∙ c.in_err-place.was))

pub returns-in_err-held-clause-none : goal.returns-in_err-held-clause-none
returns-in_err-held-clause-none c =
    let other = rw c.in_err-held.was at c.loan_at.ensures.none in
    rw c.from_residual-in_err-held.ensures (noted-other c.args.conn c.args.places.now _ c.in_ok-place.place (c.requires c.if-not-all_noted.false) (sym c.get.ensures.value ∙ sym c.copied.ensures ∙ c.in_ok-place.was) other)
