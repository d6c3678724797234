use Rattle.std.proofs.Common.{arith}
use Rattle.sqlx_family.specs.Pools.{pool_in}
use Rattle.sqlx_family_pool.proofs.StepLemmas.{room-there, written-within, logs-written}
use Rattle.sqlx_pool_core.specs.Logs.{moment_of}
use Rattle.sqlx_pool_lists.specs.PollSteps.{phase_for, start_marks}
use Rattle.sqlx_pool.proofs.StepLemmas.{start-lends, kept-books}
use Rattle.sqlx_family_pool.proofs.Replaces.{replaces-poll, poll-leaves}
use Rattle.sqlx_family_pool.proofs.locked.LockedFamily.start.Goals as goal

pub start-requires-clause-room : goal.start-requires-clause-room
start-requires-clause-room g c = room-there c.self.inside.logs.items c.self.invariant c.args.pool (grind arith) c.index_mut-log.result.now c.index_mut-log.ensures.value

pub invariant_of-self : goal.invariant_of-self
invariant_of-self g c =
    written-within c.self.inside.logs.items c.self.invariant c.args.pool (grind arith) c.index_mut-log.result.now c.index_mut-log.ensures.value
    (replaces-poll c.args.pool c.self.inside.family (grind arith) c.args.client c.args.ticket (moment_of (pool_in c.args.pool c.self.inside.family) c.args.now) c.start.ensures.becomes) c.start.ensures.makes c.start.ensures.balance
    (poll-leaves g.C.Depth.levels c.args.pool c.args.client c.args.ticket (moment_of (pool_in c.args.pool c.self.inside.family) c.args.now) c.self.inside.family c.start.result (grind arith))
    c.self.inside.connect (kept-books c.self.inside.books (start_marks c.args.ticket (phase_for c.args.client c.args.ticket (pool_in c.args.pool c.self.inside.family).tickets) c.start.result) (start-lends c.args.ticket (phase_for c.args.client c.args.ticket (pool_in c.args.pool c.self.inside.family).tickets) c.start.result)) c.start.new.log c.start.ensures.marks c.start.ensures.capacity

pub returns-clause-marks : goal.returns-clause-marks
returns-clause-marks g c = rw (← c.self.view_is) (λ named. logs-written c.self.inside.logs.items c.self.invariant c.args.pool (grind arith) c.index_mut-log.result.now c.index_mut-log.ensures.value c.start.new.log (start_marks c.args.ticket (phase_for c.args.client c.args.ticket (pool_in c.args.pool c.self.inside.family).tickets) c.start.result) c.start.ensures.marks)

pub returns-clause-becomes : goal.returns-clause-becomes
returns-clause-becomes g c = rw (← c.self.view_is) (λ named. c.start.ensures.becomes)
