use Rattle.std.proofs.Common.{◌<◌, List, Some, inr, length, append-nil, refl, sym, ap, ◌∙◌, arith}
use Rattle.sqlx_pool_marks.specs.declared.mark.Mark.{Mark}
use Rattle.sqlx_pool_log.specs.PackedLog.{marks_of}
use Rattle.sqlx_pool_core.specs.Logs.{moment_of}
use Rattle.sqlx_pool_lists.specs.PollSteps.{try_marks}
use Rattle.sqlx_family.specs.Pools.{pool_in}
use Rattle.sqlx_family.specs.RootLine.{passes_in}
use Rattle.sqlx_pool.proofs.LeavesLemmas.{try-leaves, try-flat}
use Rattle.sqlx_family_pool.specs.FamilyState.{family_state}
use Rattle.sqlx_family_pool.proofs.Replaces.{replaces-put}
use Rattle.sqlx_family_pool.proofs.StepLemmas.{in-logs, logs-written, room-there, written, is-named, few-held}
use Rattle.sqlx_family_pool.proofs.PoolLemmas.{reserved, reserved-same}
use Rattle.sqlx_family_pool.proofs.locked.LockedFamily.try_acquire.Goals as goal

pub lend_past-requires-clause-room : goal.lend_past-requires-clause-room
lend_past-requires-clause-room g c = room-there c.self.inside.logs.items c.self.invariant c.args.pool (is-named {b = c.is_named.result} (rw (← c.self.view_is) at c.is_named.ensures) c.if-not-is_named.false) c.index_mut-log.result.now c.index_mut-log.ensures.value

pub invariant_of-self : goal.invariant_of-self
invariant_of-self g c =
    let here : c.args.pool < length c.self.inside.family.pools = is-named {b = c.is_named.result} (rw (← c.self.view_is) at c.is_named.ensures) c.if-not-is_named.false in
    let core = pool_in c.args.pool c.self.inside.family in
    let lent = c.in-Some.lent in
    let owned = c.lend-held.ensures.owned in
    let made = c.lend-held.ensures.made in
    let few = c.is_full.ensures.few c.if-is_full.false in
    written c.self.inside.logs.items c.self.invariant c.args.pool here c.index_mut-log.result.now c.index_mut-log.ensures.value
    (replaces-put c.args.pool c.self.inside.family here c.in-Some.ensures.becomes) c.in-Some.ensures.makes c.in-Some.ensures.balance
    (try-leaves g.C.Depth.levels c.args.client (moment_of core c.args.now) (Some lent) core)
    c.self.inside.connect (record { owned = omega (arith, owned); made_is = made; few = inr (omega (arith, made, few)) })
    c.lend_past.new.log c.in-Some.ensures.marks (c.in-Some.ensures.room refl)

pub invariant_of-self-in-None : goal.invariant_of-self-in-None
invariant_of-self-in-None g c =
    let here : c.args.pool < length c.self.inside.family.pools = is-named {b = c.is_named.result} (rw (← c.self.view_is) at c.is_named.ensures) c.if-not-is_named.false in
    rw (c.in-None.ensures.none refl)
    (reserved c.self.inside.logs.items c.self.invariant c.args.pool c.index_mut-log.result.now c.lend_past.new.log (in-logs c.self.inside.logs.items c.self.invariant c.args.pool here c.index_mut-log.result.now c.index_mut-log.ensures.value) c.index_mut-log.ensures.value (c.in-None.ensures.marks ∙ append-nil (marks_of c.index_mut-log.result.now)) c.lend_past.ensures.capacity)

pub returns-in-Some-clause-flat : goal.returns-in-Some-clause-flat
returns-in-Some-clause-flat g c = try-flat g.C.Depth.levels (passes_in c.args.pool c.self.inside.family) (pool_in c.args.pool c.self.inside.family).idle c.in-Some.lent (sym c.in-Some.ensures.first) (c.self.invariant.standing.rest c.args.pool (is-named {b = c.is_named.result} (rw (← c.self.view_is) at c.is_named.ensures) c.if-not-is_named.false))

pub returns-in-Some-clause-marks : goal.returns-in-Some-clause-marks
returns-in-Some-clause-marks g c = rw (← c.self.view_is) (logs-written c.self.inside.logs.items c.self.invariant c.args.pool (is-named {b = c.is_named.result} (rw (← c.self.view_is) at c.is_named.ensures) c.if-not-is_named.false) c.index_mut-log.result.now c.index_mut-log.ensures.value c.lend_past.new.log (try_marks c.args.client (Some c.in-Some.lent)) c.in-Some.ensures.marks)

pub lend-held-requires-clause-part : goal.lend-held-requires-clause-part
lend-held-requires-clause-part g c = let owned = c.self.invariant.standing.owned in let few = few-held c.self.inside.family c.bounds.ensures in omega (arith, owned, few)

pub returns-in-None-clause-err : goal.returns-in-None-clause-err
returns-in-None-clause-err g c = (
  rw (← c.self.view_is)
      (rw (c.in-None.ensures.none refl)
      (ap (λ (l : List (List Mark)). family_state c.self.inside.family l c.self.inside.starts.items c.self.inside.connect c.self.inside.books) (reserved-same c.self.inside.logs.items c.args.pool c.index_mut-log.result.now c.lend_past.new.log c.index_mut-log.ensures.value (c.in-None.ensures.marks ∙ append-nil (marks_of c.index_mut-log.result.now))))),
  refl,
)
