use Rattle.std.proofs.Common.{arith, sym, ◌∙◌}
use Rattle.sqlx_pool_core.proofs.GiveCode.{leaking}
use Rattle.sqlx_pool_core.proofs.member.Member.lose.Goals as goal

pub take-requires : goal.take-requires
take-requires g c = let once = c.self.invariant.0.once c.args.id in omega (arith, once)

pub invariant_of-self : goal.invariant_of-self
invariant_of-self g c =
    let some = sym c.is_some-held.ensures ∙ c.if-held.true in (
      leaking _ c.args.client c.args.id c.take.new.self.items c.take.result c.self.invariant.0 (c.take.ensures.some some) (sym c.take.ensures.answer) some,
      record { to_hold = let h = c.self.invariant.1.to_hold in let k = c.take.ensures.capacity in omega (arith, h, k); to_rest = c.self.invariant.1.to_rest },
    )
