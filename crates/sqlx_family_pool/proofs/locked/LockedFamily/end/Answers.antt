use Rattle.std.proofs.Common.{inl, arith}
use Rattle.sqlx_family.specs.Pools.{pool_in}
use Rattle.sqlx_family_pool.proofs.StepLemmas.{room-there, written-within, logs-written}
use Rattle.sqlx_pool_core.specs.ReturnSteps.{end_marks}
use Rattle.sqlx_pool.proofs.LeavesLemmas.{released-leaves}
use Rattle.sqlx_pool.proofs.StepLemmas.{end-lends}
use Rattle.sqlx_family_pool.proofs.Replaces.{replaces-step}
use Rattle.sqlx_family_pool.proofs.locked.LockedFamily.end.Goals as goal

pub end-ends-requires-clause-room : goal.end-ends-requires-clause-room
end-ends-requires-clause-room g c = room-there c.self.inside.logs.items c.self.invariant c.args.pool (grind arith) c.index_mut-log.result.now c.index_mut-log.ensures.value

pub invariant_of-self : goal.invariant_of-self
invariant_of-self g c =
    written-within c.self.inside.logs.items c.self.invariant c.args.pool (grind arith) c.index_mut-log.result.now c.index_mut-log.ensures.value
    (replaces-step c.args.pool c.self.inside.family (grind arith) c.end-ends.ensures.becomes) c.end-ends.ensures.makes c.end-ends.ensures.balance
    (released-leaves g.C.Depth.levels c.args.id c.end-ends.result (pool_in c.args.pool c.self.inside.family))
    c.self.inside.connect (let none = end-lends c.args.id c.end-ends.result in let owned = c.take_back_if.ensures.owned in let made = c.take_back_if.ensures.made in record { owned = omega (arith, none, owned); made_is = omega (arith, none, made); few = inl (omega (arith, none)) }) c.end-ends.new.log c.end-ends.ensures.marks c.end-ends.ensures.capacity

pub returns-clause-marks : goal.returns-clause-marks
returns-clause-marks g c = rw (← c.self.view_is) (λ named. logs-written c.self.inside.logs.items c.self.invariant c.args.pool (grind arith) c.index_mut-log.result.now c.index_mut-log.ensures.value c.end-ends.new.log (end_marks c.args.id c.end-ends.result) c.end-ends.ensures.marks)

pub returns-clause-becomes : goal.returns-clause-becomes
returns-clause-becomes g c = rw (← c.self.view_is) (λ named. c.end-ends.ensures.becomes)
