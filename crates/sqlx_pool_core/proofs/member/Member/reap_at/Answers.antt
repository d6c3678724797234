use Rattle.std.proofs.Common.{ap, sym, ◌∙◌, arith, Some}
use Rattle.sqlx_pool_lists.specs.MaintenanceSteps.{reaped}
use Rattle.sqlx_pool_core.proofs.MaintenanceCode.{reaping, reaping-none}
use Rattle.sqlx_pool_core.proofs.member.Member.reap_at.Goals as goal

pub invariant_of-self : goal.invariant_of-self
invariant_of-self g c =
    let both = reaping-none _ c.take_reaped.new.self.items c.args.moment.0 c.self.invariant.0 (sym c.in_err-idle.was ∙ c.take_reaped.ensures.first) c.take_reaped.ensures.rest in
    (both.0, record { to_hold = c.self.invariant.1.to_hold; to_rest = let h = c.self.invariant.1.to_rest in let k = c.take_reaped.ensures.capacity in omega (arith, h, k) })

pub returns-in_err-idle-clause-becomes : goal.returns-in_err-idle-clause-becomes
returns-in_err-idle-clause-becomes g c =
    let both = reaping-none _ c.take_reaped.new.self.items c.args.moment.0 c.self.invariant.0 (sym c.in_err-idle.was ∙ c.take_reaped.ensures.first) c.take_reaped.ensures.rest in
    rw c.from_residual.ensures (both.1 ∙ c.self.view_is)

pub invariant_of-self-2 : goal.invariant_of-self-2
invariant_of-self-2 g c =
    let both = reaping _ c.in_ok-idle.idle c.take_reaped.new.self.items c.args.moment.0 c.self.invariant.0 (sym c.in_ok-idle.was ∙ c.take_reaped.ensures.first) c.take_reaped.ensures.rest in
    (both.0, record { to_hold = c.self.invariant.1.to_hold; to_rest = let h = c.self.invariant.1.to_rest in let k = c.take_reaped.ensures.capacity in omega (arith, h, k) })

pub returns-clause-becomes : goal.returns-clause-becomes
returns-clause-becomes g c =
    let both = reaping _ c.in_ok-idle.idle c.take_reaped.new.self.items c.args.moment.0 c.self.invariant.0 (sym c.in_ok-idle.was ∙ c.take_reaped.ensures.first) c.take_reaped.ensures.rest in
    both.1 ∙ ap (reaped c.args.moment.0 (Some c.in_ok-idle.idle)) c.self.view_is
