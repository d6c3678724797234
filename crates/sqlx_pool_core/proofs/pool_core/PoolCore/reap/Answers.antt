use Rattle.sqlx_pool_core.proofs.Alone.{plain-alone, moves-alone}
use Rattle.std.proofs.Common.{rules, refl, ◌≡◌, max}
use Rattle.sqlx_pool_lists.specs.Core.{waiting, free}
use Rattle.sqlx_pool_marks.specs.EventTable.{may_pass}
use Rattle.sqlx_pool_lists.specs.MaintenanceSteps.{reap_answer, reap_marks}
use Rattle.sqlx_pool_core.proofs.MaintenanceAtMarks.{reap-at}
use Rattle.sqlx_pool_core.proofs.LonePools.{pool-is}
use Rattle.sqlx_pool_core.proofs.pool_core.PoolCore.reap.Goals as goal

pub returns-clause-makes : goal.returns-clause-makes
returns-clause-makes g c =
    plain-alone _ _ _ (pool-is c.self.view_is) (λ core. reap_marks c.reap-reaped.result) _ refl c.self.invariant.alone c.sound.ensures c.reap-reaped.ensures.stays c.reap-reaped.ensures.draws c.reap-reaped.ensures.makes

pub returns-clause-balance : goal.returns-clause-balance
returns-clause-balance g c = moves-alone _ _ _ (pool-is c.self.view_is) (λ core. reap_marks c.reap-reaped.result) _ 0 0 refl c.reap-reaped.ensures.balance

pub returns-clause-marks : goal.returns-clause-marks
returns-clause-marks g c = λ marks s.
    let answer : c.reap-reaped.result ≡ reap_answer (may_pass c.args.self.now.pool.shut (waiting c.args.self.now.pool.tickets) (free c.args.self.now.pool)) c.args.self.now.pool.options (max c.args.self.now.pool.last c.args.now.0) c.args.self.now.pool.idle = search rules in
    reap-at c.args.self.now.pool marks s (max c.args.self.now.pool.last c.args.now.0) c.reap-reaped.result answer
