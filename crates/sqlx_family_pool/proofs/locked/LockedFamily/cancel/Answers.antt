use Rattle.std.proofs.Common.{arith}
use Rattle.sqlx_family.specs.Pools.{pool_in}
use Rattle.sqlx_family_pool.proofs.StepLemmas.{room-there, written-within, logs-written}
use Rattle.sqlx_pool_lists.specs.PollSteps.{cancel_marks}
use Rattle.sqlx_pool.proofs.LeavesLemmas.{cancel-leaves}
use Rattle.sqlx_pool.proofs.StepLemmas.{kept-books, cancel-lends}
use Rattle.sqlx_family_pool.proofs.Replaces.{replaces-step}
use Rattle.sqlx_family_pool.proofs.locked.LockedFamily.cancel.Goals as goal

pub cancel-requires-clause-room : goal.cancel-requires-clause-room
cancel-requires-clause-room g c = room-there c.self.inside.logs.items c.self.invariant c.args.pool (grind arith) c.index_mut-log.result.now c.index_mut-log.ensures.value

pub invariant_of-self : goal.invariant_of-self
invariant_of-self g c =
    written-within c.self.inside.logs.items c.self.invariant c.args.pool (grind arith) c.index_mut-log.result.now c.index_mut-log.ensures.value
    (replaces-step c.args.pool c.self.inside.family (grind arith) c.cancel.ensures.becomes) c.cancel.ensures.makes c.cancel.ensures.balance
    (cancel-leaves g.C.Depth.levels c.args.ticket c.cancel.result (pool_in c.args.pool c.self.inside.family))
    c.self.inside.connect (kept-books c.self.inside.books (cancel_marks c.args.ticket c.cancel.result) (cancel-lends c.args.ticket c.cancel.result)) c.cancel.new.log c.cancel.ensures.marks c.cancel.ensures.capacity

pub returns-clause-marks : goal.returns-clause-marks
returns-clause-marks g c = rw (← c.self.view_is) (λ named. logs-written c.self.inside.logs.items c.self.invariant c.args.pool (grind arith) c.index_mut-log.result.now c.index_mut-log.ensures.value c.cancel.new.log (cancel_marks c.args.ticket c.cancel.result) c.cancel.ensures.marks)

pub returns-clause-becomes : goal.returns-clause-becomes
returns-clause-becomes g c = rw (← c.self.view_is) (λ named. c.cancel.ensures.becomes)
