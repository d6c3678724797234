use Rattle.std.proofs.Common.{arith}
use Rattle.sqlx_family.specs.Pools.{pool_in}
use Rattle.sqlx_family_pool.proofs.StepLemmas.{room-there, written-within, logs-written}
use Rattle.sqlx_pool_lists.specs.MaintenanceSteps.{close_marks}
use Rattle.sqlx_pool.proofs.LeavesLemmas.{closed-leaves}
use Rattle.sqlx_pool.proofs.StepLemmas.{kept-books, close-lends}
use Rattle.sqlx_family_pool.proofs.Replaces.{replaces-put}
use Rattle.sqlx_family_pool.proofs.locked.LockedFamily.close.Goals as goal

pub close-requires-clause-room : goal.close-requires-clause-room
close-requires-clause-room g c = room-there c.self.inside.logs.items c.self.invariant c.args.pool (grind arith) c.index_mut.result.now c.index_mut.ensures.value

pub invariant_of-self : goal.invariant_of-self
invariant_of-self g c =
    written-within c.self.inside.logs.items c.self.invariant c.args.pool (grind arith) c.index_mut.result.now c.index_mut.ensures.value
    (replaces-put c.args.pool c.self.inside.family (grind arith) c.close.ensures.becomes) c.close.ensures.makes c.close.ensures.balance
    (closed-leaves g.C.Depth.levels (pool_in c.args.pool c.self.inside.family).shut (pool_in c.args.pool c.self.inside.family))
    c.self.inside.connect (kept-books c.self.inside.books (close_marks (pool_in c.args.pool c.self.inside.family).shut c.close.result.items) (close-lends (pool_in c.args.pool c.self.inside.family).shut c.close.result.items)) c.close.new.log c.close.ensures.marks c.close.ensures.capacity

pub returns-clause-marks : goal.returns-clause-marks
returns-clause-marks g c = rw (← c.self.view_is) (λ named. logs-written c.self.inside.logs.items c.self.invariant c.args.pool (grind arith) c.index_mut.result.now c.index_mut.ensures.value c.close.new.log (close_marks (pool_in c.args.pool c.self.inside.family).shut c.close.result.items) c.close.ensures.marks)

pub returns-clause-becomes : goal.returns-clause-becomes
returns-clause-becomes g c = rw (← c.self.view_is) (λ named. c.close.ensures.becomes)
