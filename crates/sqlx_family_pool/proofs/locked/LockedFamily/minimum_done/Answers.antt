use Rattle.std.proofs.Common.{◌≤◌, ◌++◌, ap, ◌∙◌, sym, arith}
use Rattle.sqlx_pool_log.specs.PackedLog.{marks_of}
use Rattle.sqlx_pool_core.specs.Logs.{moment_of}
use Rattle.sqlx_pool_lists.specs.MaintenanceSteps.{done_marks}
use Rattle.sqlx_family.specs.Pools.{pool_in}
use Rattle.sqlx_pool.specs.Places.{holds_place, done_if_marks}
use Rattle.sqlx_pool.proofs.LeavesLemmas.{done-leaves}
use Rattle.sqlx_pool.proofs.StepLemmas.{kept-books, done-lends}
use Rattle.sqlx_family_pool.proofs.Replaces.{replaces-step}
use Rattle.sqlx_family_pool.proofs.StepLemmas.{logs-written, room-there, written-within, held-marks}
use Rattle.sqlx_family_pool.proofs.locked.LockedFamily.minimum_done.Goals as goal

pub minimum_done-requires-clause-room : goal.minimum_done-requires-clause-room
minimum_done-requires-clause-room g c = room-there c.self.inside.logs.items c.self.invariant c.args.pool (grind arith) c.index_mut-log.result.now c.index_mut-log.ensures.value

pub invariant_of-self : goal.invariant_of-self
invariant_of-self g c =
    let core = pool_in c.args.pool c.self.inside.family in
    let moment = moment_of core c.args.now in
    written-within c.self.inside.logs.items c.self.invariant c.args.pool (grind arith) c.index_mut-log.result.now c.index_mut-log.ensures.value
    (replaces-step c.args.pool c.self.inside.family (grind arith) c.minimum_done.ensures.becomes) c.minimum_done.ensures.makes c.minimum_done.ensures.balance
    (done-leaves g.C.Depth.levels core.closed moment c.args.raw core c.requires.flat)
    c.self.inside.connect (kept-books c.self.inside.books (done_marks core.closed core.next_conn moment c.args.raw) (done-lends core.closed core.next_conn moment c.args.raw))
    c.minimum_done.new.log c.minimum_done.ensures.marks c.minimum_done.ensures.capacity

pub returns-clause-marks : goal.returns-clause-marks
returns-clause-marks g c =
    let core = pool_in c.args.pool c.self.inside.family in
    let moment = moment_of core c.args.now in
    let some : 1 ≤ core.places = grind arith in
    rw (← c.self.view_is)
    (λ named. logs-written c.self.inside.logs.items c.self.invariant c.args.pool (grind arith) c.index_mut-log.result.now c.index_mut-log.ensures.value c.minimum_done.new.log (done_if_marks (holds_place core) core.closed core.next_conn moment c.args.raw)
    (c.minimum_done.ensures.marks ∙ ap (λ l. marks_of c.index_mut-log.result.now ++ l) (sym (held-marks core.places some core.closed core.next_conn moment c.args.raw))))
