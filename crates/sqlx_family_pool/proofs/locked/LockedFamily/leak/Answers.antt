use Rattle.std.proofs.Common.{inl, arith}
use Rattle.sqlx_family.specs.Pools.{pool_in}
use Rattle.sqlx_family_pool.proofs.StepLemmas.{room-there, written-within, logs-written}
use Rattle.sqlx_pool_core.specs.ReturnSteps.{leak_marks}
use Rattle.sqlx_pool.proofs.LeavesLemmas.{leaked-leaves}
use Rattle.sqlx_pool.proofs.StepLemmas.{leak-lends}
use Rattle.sqlx_family_pool.proofs.Replaces.{replaces-put}
use Rattle.sqlx_family_pool.proofs.locked.LockedFamily.leak.Goals as goal

pub leak-ends-requires-clause-room : goal.leak-ends-requires-clause-room
leak-ends-requires-clause-room g c = room-there c.self.inside.logs.items c.self.invariant c.args.pool (grind arith) c.index_mut-log.result.now c.index_mut-log.ensures.value

pub invariant_of-self : goal.invariant_of-self
invariant_of-self g c =
    written-within c.self.inside.logs.items c.self.invariant c.args.pool (grind arith) c.index_mut-log.result.now c.index_mut-log.ensures.value
    (replaces-put c.args.pool c.self.inside.family (grind arith) c.leak-ends.ensures.becomes) c.leak-ends.ensures.makes c.leak-ends.ensures.balance
    (leaked-leaves g.C.Depth.levels c.args.id c.leak-ends.result (pool_in c.args.pool c.self.inside.family))
    c.self.inside.connect (let none = leak-lends c.args.id c.leak-ends.result in let owned = c.take_back_if.ensures.owned in let made = c.take_back_if.ensures.made in record { owned = omega (arith, none, owned); made_is = omega (arith, none, made); few = inl (omega (arith, none)) }) c.leak-ends.new.log c.leak-ends.ensures.marks c.leak-ends.ensures.capacity

pub returns-clause-marks : goal.returns-clause-marks
returns-clause-marks g c = rw (← c.self.view_is) (λ named. logs-written c.self.inside.logs.items c.self.invariant c.args.pool (grind arith) c.index_mut-log.result.now c.index_mut-log.ensures.value c.leak-ends.new.log (leak_marks c.args.id c.leak-ends.result) c.leak-ends.ensures.marks)

pub returns-clause-becomes : goal.returns-clause-becomes
returns-clause-becomes g c = rw (← c.self.view_is) (λ named. c.leak-ends.ensures.becomes)
