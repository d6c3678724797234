use Rattle.std.proofs.Common.{◌+◌, refl}
use Rattle.sqlx_pool_lists.specs.Edits.{to_back_off}
use Rattle.sqlx_pool_core.proofs.FinishCode.{backing-off}
use Rattle.sqlx_pool_core.proofs.member.Member.back_off.Goals as goal

pub invariant_of-self : goal.invariant_of-self
invariant_of-self g c =
    let both = backing-off _ _ c.args.found (to_back_off c.wait_after-wait.result (c.from.result + c.wait_after-wait.result) c.args.found) c.wait_after-wait.result (c.from.result + c.wait_after-wait.result) c.args.moment.0 c.put.new.self c.self.view_is c.self.invariant.0 c.requires.connects c.wait_after-wait.ensures refl c.put.ensures c.requires.found in
    (both.0, c.self.invariant.1)

pub returns-clause-becomes : goal.returns-clause-becomes
returns-clause-becomes g c =
    let both = backing-off _ _ c.args.found (to_back_off c.wait_after-wait.result (c.from.result + c.wait_after-wait.result) c.args.found) c.wait_after-wait.result (c.from.result + c.wait_after-wait.result) c.args.moment.0 c.put.new.self c.self.view_is c.self.invariant.0 c.requires.connects c.wait_after-wait.ensures refl c.put.ensures c.requires.found in
    both.1
