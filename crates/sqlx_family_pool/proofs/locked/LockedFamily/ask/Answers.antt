use Rattle.std.proofs.Common.{◌+◌, refl, arith}
use Rattle.sqlx_pool_core.specs.Logs.{moment_of}
use Rattle.sqlx_pool_lists.specs.PollSteps.{asked_marks}
use Rattle.sqlx_family.specs.Pools.{pool_in}
use Rattle.sqlx_pool.proofs.LeavesLemmas.{asked-leaves}
use Rattle.sqlx_pool.proofs.StepLemmas.{kept-books}
use Rattle.sqlx_family_pool.proofs.Replaces.{replaces-put}
use Rattle.sqlx_family_pool.proofs.StepLemmas.{logs-written, room-there, written}
use Rattle.sqlx_family_pool.proofs.PoolLemmas.{kept-maybe, reserved-same}
use Rattle.sqlx_family_pool.proofs.locked.LockedFamily.ask.Goals as goal

pub ask-requires-clause-room : goal.ask-requires-clause-room
ask-requires-clause-room g c = room-there c.self.inside.logs.items c.self.invariant c.args.pool (grind arith) c.index_mut-log.result.now c.index_mut-log.ensures.value

pub invariant_of-self : goal.invariant_of-self
invariant_of-self g c = kept-maybe c.self.inside.logs.items c.self.invariant c.args.pool (grind arith) c.index_mut-log.result.now c.ask.new.log c.index_mut-log.ensures.value (c.ask.ensures.none c.in_default.is) c.ask.ensures.capacity (c.ask.ensures.heard c.in_default.is)

pub invariant_of-self-2 : goal.invariant_of-self-2
invariant_of-self-2 g c =
    let core = pool_in c.args.pool c.self.inside.family in
    let moment = moment_of core c.args.now in
    let made = asked_marks core c.args.client moment c.in-Some.ticket in
    written c.self.inside.logs.items c.self.invariant c.args.pool (grind arith) c.index_mut-log.result.now c.index_mut-log.ensures.value
    (replaces-put c.args.pool c.self.inside.family (grind arith) (c.in-Some.ensures.becomes refl)) c.in-Some.ensures.makes c.in-Some.ensures.balance
    (asked-leaves g.C.Depth.levels moment c.args.client (moment + core.options.acquire_timeout) core)
    c.self.inside.connect (kept-books c.self.inside.books made refl)
    c.ask.new.log c.in-Some.ensures.marks (c.in-Some.ensures.room refl)

pub returns-clause-marks : goal.returns-clause-marks
returns-clause-marks g c =
    let core = pool_in c.args.pool c.self.inside.family in
    rw (← c.self.view_is) (logs-written c.self.inside.logs.items c.self.invariant c.args.pool (grind arith) c.index_mut-log.result.now c.index_mut-log.ensures.value c.ask.new.log (asked_marks core c.args.client (moment_of core c.args.now) c.in-Some.ticket) c.in-Some.ensures.marks)

pub returns-in_default-clause-logs : goal.returns-in_default-clause-logs
returns-in_default-clause-logs g c = rw (← c.self.view_is) (reserved-same c.self.inside.logs.items c.args.pool c.index_mut-log.result.now c.ask.new.log c.index_mut-log.ensures.value (c.ask.ensures.none c.in_default.is))

pub returns-in_default-clause-err : goal.returns-in_default-clause-err
returns-in_default-clause-err g c = rw (← c.self.view_is) (c.ask.ensures.heard c.in_default.is)
