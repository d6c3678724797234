use Rattle.std.proofs.Common.{arith, refl}
use Rattle.sqlx_pool_core.proofs.FinishCode.{connecting-room, connecting-sound}
use Rattle.sqlx_pool_core.proofs.member.Member.lend_new.Goals as goal

pub push_reserved-requires : goal.push_reserved-requires
push_reserved-requires g c =
    let room = connecting-room _ _ c.args.found c.self.view_is c.self.invariant.0 c.requires.connects c.requires.found in
    let reserved = c.self.invariant.1.to_hold in
    grind (arith, room, reserved)

pub invariant_of-self : goal.invariant_of-self
invariant_of-self g c = (
  connecting-sound _ _ c.args.found (record { conn = c.self.inside.next_conn; client = c.args.found.client; created = c.args.moment }) c.args.moment.0 c.end.new.self c.push_reserved.new.self.items c.self.view_is c.self.invariant.0 c.requires.connects refl c.end.ensures c.push_reserved.ensures.items c.requires.found,
  record { to_hold = let h = c.self.invariant.1.to_hold in let k = c.push_reserved.ensures.capacity in omega (arith, h, k); to_rest = c.self.invariant.1.to_rest },
)
