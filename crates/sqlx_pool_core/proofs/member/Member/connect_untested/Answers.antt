use Rattle.std.proofs.Common.{refl}
use Rattle.sqlx_pool_lists.specs.Edits.{to_connect}
use Rattle.sqlx_pool_core.proofs.FinishCode.{going-on-still}
use Rattle.sqlx_pool_core.proofs.member.Member.connect_untested.Goals as goal

pub invariant_of-self : goal.invariant_of-self
invariant_of-self g c =
    let both = going-on-still _ _ c.args.found (to_connect c.args.found) to_connect c.put.new.self c.self.view_is c.self.invariant.0 c.requires.out refl refl (λ k. refl) c.put.ensures c.requires.found in
    (both.0, c.self.invariant.1)

pub returns : goal.returns
returns g c =
    let both = going-on-still _ _ c.args.found (to_connect c.args.found) to_connect c.put.new.self c.self.view_is c.self.invariant.0 c.requires.out refl refl (λ k. refl) c.put.ensures c.requires.found in
    both.1
