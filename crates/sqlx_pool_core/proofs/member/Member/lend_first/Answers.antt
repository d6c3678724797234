use Rattle.std.proofs.Common.{rules, arith, refl}
use Rattle.sqlx_pool_core.proofs.AskSoundness.{sound-tried}
use Rattle.sqlx_pool_core.proofs.member.Member.lend_first.Goals as goal

pub invariant_of-self-2 : goal.invariant_of-self-2
invariant_of-self-2 g c = (
  sound-tried _ c.in_ok-lent.field-0 c.pop_front.new.self.items (record { conn = c.in_ok-lent.field-0.lent.id; client = c.args.client; created = c.in_ok-lent.field-0.lent.created }) c.push_reserved.new.self.items c.args.moment.0 c.self.invariant.0 (search rules) c.in_ok-lent.ensures.items refl c.push_reserved.ensures.items,
  record { to_hold = let h = c.self.invariant.1.to_hold in let k = c.push_reserved.ensures.capacity in omega (arith, h, k); to_rest = let h = c.self.invariant.1.to_rest in let k = c.pop_front.ensures.capacity in omega (arith, h, k) },
)
