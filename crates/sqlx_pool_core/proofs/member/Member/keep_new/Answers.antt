use Rattle.std.proofs.Common.{◌≤◌, arith, refl, rules}
use Rattle.sqlx_pool_core.proofs.MaintenanceCode.{sound-kept_new}
use Rattle.sqlx_pool_core.proofs.member.Member.keep_new.Goals as goal

pub invariant_of-self : goal.invariant_of-self
invariant_of-self g c =
    let placed : 1 ≤ c.self.inside.places = rw (← c.self.view_is) at c.requires.place in (
      sound-kept_new _ _ c.push.new.self.items c.args.moment.0 c.self.invariant.0 placed refl c.push.ensures.rest,
      record { to_hold = c.self.invariant.1.to_hold; to_rest = let h = c.self.invariant.1.to_rest in let k = c.push.ensures.capacity in omega (arith, h, k) },
    )

pub returns : goal.returns
returns g c = search rules
