use Rattle.std.proofs.Common.{arith, refl, sym}
use Rattle.sqlx_pool_core.proofs.GiveCode.{sound-unlent, sound-kept}
use Rattle.sqlx_pool_core.proofs.member.Member.take_back.Goals as goal

pub take-requires : goal.take-requires
take-requires g c = let once = c.self.invariant.0.once c.args.lent.id in omega (arith, once)

pub invariant_of-self-else-not-accepted : goal.invariant_of-self-else-not-accepted
invariant_of-self-else-not-accepted g c = (
  rw (c.in-Some.ensures.some refl) (sound-unlent _ c.args.lent.id c.args.moment.0 c.self.invariant.0),
  record { to_hold = let h = c.self.invariant.1.to_hold in let k = c.take.ensures.capacity in omega (arith, h, k); to_rest = c.self.invariant.1.to_rest },
)

pub invariant_of-self-then-not-accepted : goal.invariant_of-self-then-not-accepted
invariant_of-self-then-not-accepted g c = (
  rw (c.in-Some.ensures.some refl) (sound-unlent _ c.args.lent.id c.args.moment.0 c.self.invariant.0),
  record { to_hold = let h = c.self.invariant.1.to_hold in let k = c.take.ensures.capacity in omega (arith, h, k); to_rest = c.self.invariant.1.to_rest },
)

pub invariant_of-self-2 : goal.invariant_of-self-2
invariant_of-self-2 g c = (
  rw (c.in-Some.ensures.some refl, c.push.ensures.rest) (sound-kept _ c.args.client c.args.lent.id c.in-Some.loan (record { lent = record { id = c.args.lent.id; created = c.in-Some.loan.created; raw = c.args.lent.raw }; since = c.args.moment }) c.args.moment.0 c.self.invariant.0 (sym c.in-Some.ensures.answer) refl),
  record { to_hold = let h = c.self.invariant.1.to_hold in let k = c.take.ensures.capacity in omega (arith, h, k); to_rest = let h = c.self.invariant.1.to_rest in let k = c.push.ensures.capacity in omega (arith, h, k) },
)
