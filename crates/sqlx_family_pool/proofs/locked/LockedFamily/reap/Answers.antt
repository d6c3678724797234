use Rattle.std.proofs.Common.{arith}
use Rattle.sqlx_family.specs.Pools.{pool_in}
use Rattle.sqlx_family_pool.proofs.StepLemmas.{room-there, written-within, logs-written}
use Rattle.sqlx_pool_core.specs.Logs.{moment_of}
use Rattle.sqlx_pool_lists.specs.MaintenanceSteps.{reap_marks}
use Rattle.sqlx_pool.proofs.LeavesLemmas.{reaped-leaves}
use Rattle.sqlx_pool.proofs.StepLemmas.{kept-books, reap-lends}
use Rattle.sqlx_family_pool.proofs.Replaces.{replaces-put}
use Rattle.sqlx_family_pool.proofs.locked.LockedFamily.reap.Goals as goal

pub reap-requires-clause-room : goal.reap-requires-clause-room
reap-requires-clause-room g c = room-there c.self.inside.logs.items c.self.invariant c.args.pool (grind arith) c.index_mut.result.now c.index_mut.ensures.value

pub invariant_of-self : goal.invariant_of-self
invariant_of-self g c =
    let core = pool_in c.args.pool c.self.inside.family in
    written-within c.self.inside.logs.items c.self.invariant c.args.pool (grind arith) c.index_mut.result.now c.index_mut.ensures.value
    (replaces-put c.args.pool c.self.inside.family (grind arith) c.reap.ensures.becomes) c.reap.ensures.makes c.reap.ensures.balance
    (reaped-leaves g.C.Depth.levels (moment_of core c.args.now) c.reap.result core)
    c.self.inside.connect (kept-books c.self.inside.books (reap_marks c.reap.result) (reap-lends c.reap.result)) c.reap.new.log c.reap.ensures.marks c.reap.ensures.capacity

pub returns-clause-marks : goal.returns-clause-marks
returns-clause-marks g c = rw (← c.self.view_is) (λ named. logs-written c.self.inside.logs.items c.self.invariant c.args.pool (grind arith) c.index_mut.result.now c.index_mut.ensures.value c.reap.new.log (reap_marks c.reap.result) c.reap.ensures.marks)

pub returns-clause-becomes : goal.returns-clause-becomes
returns-clause-becomes g c = rw (← c.self.view_is) (λ named. c.reap.ensures.becomes)
