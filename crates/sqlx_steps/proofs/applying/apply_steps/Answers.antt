use Rattle.std.proofs.Common.{sym, subst}
use Rattle.mem_store.specs.Store.{Store, Link}
use Rattle.sqlx_steps.specs.Applies.{IsAtVersion, Applies}
use Rattle.sqlx_steps.proofs.applying.apply_steps.Goals as goal

pub returns : goal.returns
returns c = λ n v at within.
    let begins =
    subst (λ (s : Store). IsAtVersion c.args.steps.now n v s c.new-work.result.side) (sym c.new-work.ensures.store)
    (subst (λ (l : Link). IsAtVersion c.args.steps.now n v c.args.store l) (sym c.new-work.ensures.side) at) in
    subst (λ (s : Store). Applies c.args.steps.now n v c.args.upto c.args.refuse c.apply_on-applied.result s c.into_parts-store.result.1.side) (sym c.into_parts-store.ensures.store)
    (subst (λ (l : Link). Applies c.args.steps.now n v c.args.upto c.args.refuse c.apply_on-applied.result c.apply_on-applied.new.work.store l) (sym c.into_parts-store.ensures.side)
    (c.apply_on-applied.ensures n v begins within))
