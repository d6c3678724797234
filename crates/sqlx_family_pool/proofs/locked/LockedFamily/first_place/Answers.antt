use Rattle.std.proofs.Common.{[], List, append-nil, refl, ap, ◌∙◌, sym, arith}
use Rattle.sqlx_pool_marks.specs.declared.mark.Mark.{Mark}
use Rattle.sqlx_pool_log.specs.PackedLog.{marks_of}
use Rattle.sqlx_family.specs.Pools.{pool_in}
use Rattle.sqlx_pool.proofs.LeavesLemmas.{placed-leaves}
use Rattle.sqlx_pool.proofs.StepLemmas.{kept-books}
use Rattle.sqlx_family_pool.specs.FamilyState.{family_state}
use Rattle.sqlx_family_pool.proofs.Replaces.{replaces-put}
use Rattle.sqlx_family_pool.proofs.StepLemmas.{in-logs, room-there, written, place-few}
use Rattle.sqlx_family_pool.proofs.PoolLemmas.{reserved, reserved-same}
use Rattle.sqlx_family_pool.proofs.locked.LockedFamily.first_place.Goals as goal

pub reserve-requires-clause-room : goal.reserve-requires-clause-room
reserve-requires-clause-room g c = room-there c.self.inside.logs.items c.self.invariant c.args.pool (grind arith) c.index_mut.result.now c.index_mut.ensures.value

pub invariant_of-self : goal.invariant_of-self
invariant_of-self g c = reserved c.self.inside.logs.items c.self.invariant c.args.pool c.index_mut.result.now c.reserve.new.log (in-logs c.self.inside.logs.items c.self.invariant c.args.pool (grind arith) c.index_mut.result.now c.index_mut.ensures.value) c.index_mut.ensures.value c.reserve.ensures.marks c.reserve.ensures.capacity

pub invariant_of-self-2 : goal.invariant_of-self-2
invariant_of-self-2 g c =
    written c.self.inside.logs.items c.self.invariant c.args.pool (grind arith) c.index_mut.result.now c.index_mut.ensures.value
    (replaces-put c.args.pool c.self.inside.family (grind arith) c.first_place.ensures.becomes) c.first_place.ensures.makes c.first_place.ensures.balance
    (placed-leaves g.C.Depth.levels c.first_place.result (pool_in c.args.pool c.self.inside.family))
    c.self.inside.connect (kept-books c.self.inside.books [] refl) c.reserve.new.log (c.reserve.ensures.marks ∙ sym (append-nil (marks_of c.index_mut.result.now)))
    (let room = c.reserve.ensures.room c.if-not-reserve.false in let few = place-few c.first_place.result in omega (arith, room, few))

pub returns-then-not-reserve-clause-logs : goal.returns-then-not-reserve-clause-logs
returns-then-not-reserve-clause-logs g c = rw (← c.self.view_is) (reserved-same c.self.inside.logs.items c.args.pool c.index_mut.result.now c.reserve.new.log c.index_mut.ensures.value c.reserve.ensures.marks)

pub returns-then-not-reserve-clause-err : goal.returns-then-not-reserve-clause-err
returns-then-not-reserve-clause-err g c =
    rw (← c.self.view_is)
    (ap (λ (l : List (List Mark)). family_state c.self.inside.family l c.self.inside.starts.items c.self.inside.connect c.self.inside.books) (reserved-same c.self.inside.logs.items c.args.pool c.index_mut.result.now c.reserve.new.log c.index_mut.ensures.value c.reserve.ensures.marks))

pub returns-clause-logs : goal.returns-clause-logs
returns-clause-logs g c = rw (← c.self.view_is) (reserved-same c.self.inside.logs.items c.args.pool c.index_mut.result.now c.reserve.new.log c.index_mut.ensures.value c.reserve.ensures.marks)
