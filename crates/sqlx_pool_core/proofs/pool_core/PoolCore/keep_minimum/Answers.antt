use Rattle.std.proofs.Common.{◌≡◌, ◌+◌, ◌≤◌, max, ℕ, Bool, true, false, [], ◌∷◌, None, Option, refl, sym, ap, ◌∙◌, subst, arith, inl, inr}
use Rattle.sqlx_pool_lists.specs.Core.{Core, free, waiting}
use Rattle.sqlx_pool_lists.specs.MaintenanceSteps.{done, done_marks, placed, has_place}
use Rattle.sqlx_pool_lists.specs.declared.options.PoolOptions.{PoolOptions}
use Rattle.sqlx_pool_core.specs.declared.idle_check.Opening.{Opening}
use Rattle.sqlx_pool_core.specs.declared.idle_check.Opening.TheVariants.{Opened, Rejected, Transient, Failed}
use Rattle.sqlx_pool_core.specs.Chain.{Tries}
use Rattle.sqlx_pool_core.specs.Minimum.{filled, raw_of}
use Rattle.sqlx_pool_core.specs.Logs.{Logs}
use Rattle.sqlx_pool_core.proofs.Polling.{logs-by}
use Rattle.sqlx_pool_core.proofs.CallsKeep.{minimum-more}
use Rattle.sqlx_pool_core.proofs.KeepRuns.{kept-so, kept-place}
use Rattle.sqlx_pool_core.proofs.KeepEnds.{kept-ends, kept-short}
use Rattle.sqlx_pool_core.proofs.Maintenance.{step-marked, step-unmarked, before-more, keeps-ended, place-open, place-passes, place-room, filled-size, filled-options}
use Rattle.sqlx_pool_core.proofs.MaintenanceAtMarks.{lacks-at}
use Rattle.sqlx_pool_core.proofs.LonePools.{leaves-then}
use Rattle.sqlx_pool_core.proofs.pool_core.PoolCore.keep_minimum.Goals as goal

-- a place that was held, and what became of it
step : {C : Type 0} (now : ℕ) (o : Opening C) (core mid next : Core C) → mid ≡ placed true core → next ≡ done mid.shut (max mid.last now) (raw_of o) mid → next ≡ filled now o core
step {C} now o core mid next held is = is ∙ ap (λ (c : Core C). done c.shut (max c.last now) (raw_of o) c) held

-- a place was held in a core
held_place : {C : Type 0} (core mid : Core C) → mid ≡ placed true core → 1 ≤ mid.places
held_place core mid held = let e = ap (λ (c : Core _). c.places) held in omega (arith, e)

still_open : {C : Type 0} (core mid : Core C) → mid ≡ placed true core → has_place core.options.min_connections core ≡ true → mid.shut ≡ false
still_open core mid held place = ap (λ (c : Core _). c.shut) held ∙ place-open core place

pub fill-requires-clause-place : goal.fill-requires-clause-place
fill-requires-clause-place g c = held_place c.places.self.pool c.minimum_place.new.self.pool c.places-test.ensures.becomes

pub fill-requires-clause-open : goal.fill-requires-clause-open
fill-requires-clause-open g c = still_open c.places.self.pool c.minimum_place.new.self.pool c.places-test.ensures.becomes (sym c.places-test.ensures.answer)

pub fill-requires-in-Rejected-clause-place : goal.fill-requires-in-Rejected-clause-place
fill-requires-in-Rejected-clause-place g c = held_place c.places.self.pool c.minimum_place.new.self.pool c.places-test.ensures.becomes

pub fill-requires-in-Rejected-clause-open : goal.fill-requires-in-Rejected-clause-open
fill-requires-in-Rejected-clause-open g c = still_open c.places.self.pool c.minimum_place.new.self.pool c.places-test.ensures.becomes (sym c.places-test.ensures.answer)

pub fill-requires-in-Failed-clause-place : goal.fill-requires-in-Failed-clause-place
fill-requires-in-Failed-clause-place g c = held_place c.places.self.pool c.minimum_place.new.self.pool c.places-test.ensures.becomes

pub fill-requires-in-Failed-clause-open : goal.fill-requires-in-Failed-clause-open
fill-requires-in-Failed-clause-open g c = still_open c.places.self.pool c.minimum_place.new.self.pool c.places-test.ensures.becomes (sym c.places-test.ensures.answer)

-- a place is held past the line, so all that wait are entitled
held_past : {C : Type 0} (core mid : Core C) → mid ≡ placed true core → has_place core.options.min_connections core ≡ true → waiting mid.tickets ≤ free mid
held_past {C} core mid held place = let few = place-passes core place in subst (λ (n : Core C). waiting n.tickets ≤ free n) (sym held) (omega (arith, few))

pub fill-requires-clause-all : goal.fill-requires-clause-all
fill-requires-clause-all g c = held_past c.places.self.pool c.minimum_place.new.self.pool c.places-test.ensures.becomes (sym c.places-test.ensures.answer)

pub fill-requires-in-Rejected-clause-all : goal.fill-requires-in-Rejected-clause-all
fill-requires-in-Rejected-clause-all g c = held_past c.places.self.pool c.minimum_place.new.self.pool c.places-test.ensures.becomes (sym c.places-test.ensures.answer)

pub fill-requires-in-Failed-clause-all : goal.fill-requires-in-Failed-clause-all
fill-requires-in-Failed-clause-all g c = held_past c.places.self.pool c.minimum_place.new.self.pool c.places-test.ensures.becomes (sym c.places-test.ensures.answer)

pub returns-in-Rejected-clause-edge : goal.returns-in-Rejected-clause-edge
returns-in-Rejected-clause-edge g c = leaves-then c.args.self.now c.places.self c.fill-in-Rejected.new.self c.places.invariant.edge (leaves-then c.places.self c.minimum_place.new.self c.fill-in-Rejected.new.self c.places-test.ensures.edge c.fill-in-Rejected.ensures.edge)

pub returns-in-Failed-clause-edge : goal.returns-in-Failed-clause-edge
returns-in-Failed-clause-edge g c = leaves-then c.args.self.now c.places.self c.fill-in-Failed.new.self c.places.invariant.edge (leaves-then c.places.self c.minimum_place.new.self c.fill-in-Failed.new.self c.places-test.ensures.edge c.fill-in-Failed.ensures.edge)

pub returns-clause-edge : goal.returns-clause-edge
returns-clause-edge g c = leaves-then c.args.self.now c.places.self c.minimum_place.new.self c.places.invariant.edge c.places-test.ensures.edge

pub returns-in-Rejected-clause-lacks : goal.returns-in-Rejected-clause-lacks
returns-in-Rejected-clause-lacks g c = λ marks s. lacks-at c.args.self.now.pool marks s

pub returns-in-Failed-clause-lacks : goal.returns-in-Failed-clause-lacks
returns-in-Failed-clause-lacks g c = λ marks s. lacks-at c.args.self.now.pool marks s

pub returns-clause-lacks : goal.returns-clause-lacks
returns-clause-lacks g c = λ marks s. lacks-at c.args.self.now.pool marks s

pub places-smaller : goal.places-smaller
places-smaller g c =
    let core = c.places.self.pool in
    let place = sym c.places-test.ensures.answer in
    let becomes = step c.args.now.0 (Opened c.in-Opened.raw) core c.minimum_place.new.self.pool c.fill.new.self.pool c.places-test.ensures.becomes c.fill.ensures.becomes in
    let same = ap (λ (o : PoolOptions). o.max_connections) (filled-options c.args.now.0 c.in-Opened.raw core c.fill.new.self.pool becomes (place-open core place)) in
    let grown = filled-size c.args.now.0 c.in-Opened.raw core c.fill.new.self.pool becomes (place-open core place) in
    let room = place-room core place in
    omega (arith, same, grown, room)

pub overflow_add-opened : goal.overflow_add-opened
overflow_add-opened g c =
    let room = place-room c.places.self.pool (sym c.places-test.ensures.answer) in
    let within = c.places.invariant.within in
    let is = c.places.invariant.max in
    omega (arith, room, within, is)

pub places-preserved : goal.places-preserved
places-preserved g c =
    let core = c.places.self.pool in
    let place = sym c.places-test.ensures.answer in
    let becomes = step c.args.now.0 (Opened c.in-Opened.raw) core c.minimum_place.new.self.pool c.fill.new.self.pool c.places-test.ensures.becomes c.fill.ensures.becomes in
    let same = filled-options c.args.now.0 c.in-Opened.raw core c.fill.new.self.pool becomes (place-open core place) in
    let grown = filled-size c.args.now.0 c.in-Opened.raw core c.fill.new.self.pool becomes (place-open core place) in
    let within = c.places.invariant.within in
    record {
      so_far = before-more g.X.Outside.does g.X.Outside.depth c.args.options.now c.args.now.0 c.args.self.now.pool core c.args.out.now c.places.out c.places.opened c.places.invariant.so_far c.in-Opened.raw c.try_connect.new.out c.fill.new.self.pool place
          (subst (λ (hook : Bool). Tries g.X.Outside.does g.X.Outside.depth hook c.args.options.now (Opened c.in-Opened.raw) c.places.out c.try_connect.new.out) c.places.invariant.hook c.in-Opened.ensures) becomes
          (step-marked c.args.now.0 (Opened c.in-Opened.raw) core c.minimum_place.new.self.pool c.fill.new.self.pool c.places-test.ensures.becomes c.minimum_place.ensures.makes c.fill.ensures.makes);
      hook = c.places.invariant.hook ∙ ap (λ (o : PoolOptions). o.after_connect) (sym same);
      within = omega (arith, grown, within);
      max = c.places.invariant.max ∙ ap (λ (o : PoolOptions). o.max_connections) (sym same);
      edge = leaves-then c.args.self.now c.places.self c.fill.new.self c.places.invariant.edge (leaves-then c.places.self c.minimum_place.new.self c.fill.new.self c.places-test.ensures.edge c.fill.ensures.edge);
    }

plus_none : (n : ℕ) → n ≡ n + 0
plus_none n = omega arith

-- the try of a place, by the pool's own options
tried : (g : _) (c : goal.After-fill-in-Rejected g) (o : Opening _) → c.try_connect.result ≡ o → Tries g.X.Outside.does g.X.Outside.depth c.places.self.pool.options.after_connect c.args.options.now o c.places.out c.try_connect.new.out
tried g c o e =
    subst (λ (o : Opening _). Tries g.X.Outside.does g.X.Outside.depth c.places.self.pool.options.after_connect c.args.options.now o c.places.out c.try_connect.new.out) e
    (subst (λ (hook : Bool). Tries g.X.Outside.does g.X.Outside.depth hook c.args.options.now c.try_connect.result c.places.out c.try_connect.new.out) c.places.invariant.hook c.try_connect.ensures)

-- what a place came to for which nothing was opened
unfilled : (g : _) (c : goal.After-fill-in-Rejected g) (o : Opening _) → raw_of o ≡ None → (c.fill-in-Rejected.new.self.pool ≡ filled c.args.now.0 o c.places.self.pool) × Logs c.places.self.pool [] c.fill-in-Rejected.new.self.pool
unfilled g c o none =
    let core = c.places.self.pool in
    let next = c.fill-in-Rejected.new.self.pool in
    let by : next ≡ done c.minimum_place.new.self.pool.shut (max c.minimum_place.new.self.pool.last c.args.now.0) (raw_of o) c.minimum_place.new.self.pool = c.fill-in-Rejected.ensures.becomes ∙ ap (λ (r : Option _). done c.minimum_place.new.self.pool.shut (max c.minimum_place.new.self.pool.last c.args.now.0) r c.minimum_place.new.self.pool) (sym none) in (
      step c.args.now.0 o core c.minimum_place.new.self.pool next c.places-test.ensures.becomes by,
      step-unmarked c.args.now.0 o core next none
          (step-marked c.args.now.0 o core c.minimum_place.new.self.pool next c.places-test.ensures.becomes c.minimum_place.ensures.makes
          (logs-by c.minimum_place.new.self.pool next _ _ (ap (λ (r : Option _). done_marks c.minimum_place.new.self.pool.shut c.minimum_place.new.self.pool.next_conn (max c.minimum_place.new.self.pool.last c.args.now.0) r) none) c.fill-in-Rejected.ensures.makes)),
    )

pub returns-in-Rejected-clause-keeps : goal.returns-in-Rejected-clause-keeps
returns-in-Rejected-clause-keeps g c = elim c.in-Rejected.is [
  | inl e ↦ let u = unfilled g c Rejected refl in
      keeps-ended g.X.Outside.does g.X.Outside.depth c.args.options.now c.args.now.0 c.args.self.now.pool c.places.self.pool c.args.out.now c.places.out c.places.opened c.places.invariant.so_far (Rejected ∷ []) c.fill-in-Rejected.new.self.pool c.try_connect.new.out _
      (sym c.places-test.ensures.answer, tried g c Rejected e, u.0, u.1) (plus_none c.places.opened) refl
  | inr e ↦ let u = unfilled g c Transient refl in
      keeps-ended g.X.Outside.does g.X.Outside.depth c.args.options.now c.args.now.0 c.args.self.now.pool c.places.self.pool c.args.out.now c.places.out c.places.opened c.places.invariant.so_far (Transient ∷ []) c.fill-in-Rejected.new.self.pool c.try_connect.new.out _
      (sym c.places-test.ensures.answer, tried g c Transient e, u.0, u.1) (plus_none c.places.opened) refl
]

pub returns-in-Failed-clause-keeps : goal.returns-in-Failed-clause-keeps
returns-in-Failed-clause-keeps g c =
    let core = c.places.self.pool in
    keeps-ended g.X.Outside.does g.X.Outside.depth c.args.options.now c.args.now.0 c.args.self.now.pool core c.args.out.now c.places.out c.places.opened c.places.invariant.so_far (Failed c.in-Failed.error ∷ []) c.fill-in-Failed.new.self.pool c.try_connect.new.out _ (
      sym c.places-test.ensures.answer,
      subst (λ (hook : Bool). Tries g.X.Outside.does g.X.Outside.depth hook c.args.options.now (Failed c.in-Failed.error) c.places.out c.try_connect.new.out) c.places.invariant.hook c.in-Failed.ensures,
      step c.args.now.0 (Failed c.in-Failed.error) core c.minimum_place.new.self.pool c.fill-in-Failed.new.self.pool c.places-test.ensures.becomes c.fill-in-Failed.ensures.becomes,
      step-unmarked c.args.now.0 (Failed c.in-Failed.error) core c.fill-in-Failed.new.self.pool refl (step-marked c.args.now.0 (Failed c.in-Failed.error) core c.minimum_place.new.self.pool c.fill-in-Failed.new.self.pool c.places-test.ensures.becomes c.minimum_place.ensures.makes c.fill-in-Failed.ensures.makes),
    )
    (plus_none c.places.opened) c.is_want-short.ensures

pub returns-clause-keeps : goal.returns-clause-keeps
returns-clause-keeps g c =
    keeps-ended g.X.Outside.does g.X.Outside.depth c.args.options.now c.args.now.0 c.args.self.now.pool c.places.self.pool c.args.out.now c.places.out c.places.opened c.places.invariant.so_far [] c.minimum_place.new.self.pool c.places.out _
    (sym c.places-test.ensures.answer, c.places-test.ensures.becomes, refl) (plus_none c.places.opened) refl

pub returns-in-Rejected-clause-counts : goal.returns-in-Rejected-clause-counts
returns-in-Rejected-clause-counts g c =
    let k = returns-in-Rejected-clause-keeps g c in (
      minimum-more g.X.Outside.does g.X.Outside.depth g.X.Outside.faults (λ x a b d. (g.met.X.Outside.facts x a b d).more_faults) _ _ _ _ _ _ _ k,
      minimum-more g.X.Outside.does g.X.Outside.depth g.X.Outside.refusals (λ x a b d. (g.met.X.Outside.facts x a b d).more_refusals) _ _ _ _ _ _ _ k,
    )

pub returns-in-Failed-clause-counts : goal.returns-in-Failed-clause-counts
returns-in-Failed-clause-counts g c =
    let k = returns-in-Failed-clause-keeps g c in (
      minimum-more g.X.Outside.does g.X.Outside.depth g.X.Outside.faults (λ x a b d. (g.met.X.Outside.facts x a b d).more_faults) _ _ _ _ _ _ _ k,
      minimum-more g.X.Outside.does g.X.Outside.depth g.X.Outside.refusals (λ x a b d. (g.met.X.Outside.facts x a b d).more_refusals) _ _ _ _ _ _ _ k,
    )

pub returns-clause-counts : goal.returns-clause-counts
returns-clause-counts g c =
    let k = returns-clause-keeps g c in (
      minimum-more g.X.Outside.does g.X.Outside.depth g.X.Outside.faults (λ x a b d. (g.met.X.Outside.facts x a b d).more_faults) _ _ _ _ _ _ _ k,
      minimum-more g.X.Outside.does g.X.Outside.depth g.X.Outside.refusals (λ x a b d. (g.met.X.Outside.facts x a b d).more_refusals) _ _ _ _ _ _ _ k,
    )

pub returns-in-Rejected-clause-makes : goal.returns-in-Rejected-clause-makes
returns-in-Rejected-clause-makes g c = (kept-so g.X.Outside.does g.X.Outside.depth g.X.Outside.faults g.X.Outside.refusals g.X.Outside.IsShort g.met.X.Outside.facts c.args.options.now c.args.now.0 c.args.self.now.pool _ _ _ _ (returns-in-Rejected-clause-keeps g c)).makes

pub returns-in-Rejected-clause-opens : goal.returns-in-Rejected-clause-opens
returns-in-Rejected-clause-opens g c = (kept-so g.X.Outside.does g.X.Outside.depth g.X.Outside.faults g.X.Outside.refusals g.X.Outside.IsShort g.met.X.Outside.facts c.args.options.now c.args.now.0 c.args.self.now.pool _ _ _ _ (returns-in-Rejected-clause-keeps g c)).opens

pub returns-in-Rejected-clause-most : goal.returns-in-Rejected-clause-most
returns-in-Rejected-clause-most g c = (kept-so g.X.Outside.does g.X.Outside.depth g.X.Outside.faults g.X.Outside.refusals g.X.Outside.IsShort g.met.X.Outside.facts c.args.options.now c.args.now.0 c.args.self.now.pool _ _ _ _ (returns-in-Rejected-clause-keeps g c)).most

pub returns-in-Rejected-clause-place : goal.returns-in-Rejected-clause-place
returns-in-Rejected-clause-place g c =
    kept-place g.X.Outside.does g.X.Outside.depth g.X.Outside.faults g.X.Outside.refusals g.X.Outside.IsShort g.met.X.Outside.facts c.args.options.now c.args.now.0 c.args.self.now.pool _ _
    (kept-so g.X.Outside.does g.X.Outside.depth g.X.Outside.faults g.X.Outside.refusals g.X.Outside.IsShort g.met.X.Outside.facts c.args.options.now c.args.now.0 c.args.self.now.pool _ _ _ _ (returns-in-Rejected-clause-keeps g c))

pub returns-in-Failed-clause-makes : goal.returns-in-Failed-clause-makes
returns-in-Failed-clause-makes g c = (kept-so g.X.Outside.does g.X.Outside.depth g.X.Outside.faults g.X.Outside.refusals g.X.Outside.IsShort g.met.X.Outside.facts c.args.options.now c.args.now.0 c.args.self.now.pool _ _ _ _ (returns-in-Failed-clause-keeps g c)).makes

pub returns-in-Failed-clause-opens : goal.returns-in-Failed-clause-opens
returns-in-Failed-clause-opens g c = (kept-so g.X.Outside.does g.X.Outside.depth g.X.Outside.faults g.X.Outside.refusals g.X.Outside.IsShort g.met.X.Outside.facts c.args.options.now c.args.now.0 c.args.self.now.pool _ _ _ _ (returns-in-Failed-clause-keeps g c)).opens

pub returns-in-Failed-clause-most : goal.returns-in-Failed-clause-most
returns-in-Failed-clause-most g c = (kept-so g.X.Outside.does g.X.Outside.depth g.X.Outside.faults g.X.Outside.refusals g.X.Outside.IsShort g.met.X.Outside.facts c.args.options.now c.args.now.0 c.args.self.now.pool _ _ _ _ (returns-in-Failed-clause-keeps g c)).most

pub returns-in-Failed-clause-place : goal.returns-in-Failed-clause-place
returns-in-Failed-clause-place g c =
    kept-place g.X.Outside.does g.X.Outside.depth g.X.Outside.faults g.X.Outside.refusals g.X.Outside.IsShort g.met.X.Outside.facts c.args.options.now c.args.now.0 c.args.self.now.pool _ _
    (kept-so g.X.Outside.does g.X.Outside.depth g.X.Outside.faults g.X.Outside.refusals g.X.Outside.IsShort g.met.X.Outside.facts c.args.options.now c.args.now.0 c.args.self.now.pool _ _ _ _ (returns-in-Failed-clause-keeps g c))

pub returns-clause-makes : goal.returns-clause-makes
returns-clause-makes g c = (kept-so g.X.Outside.does g.X.Outside.depth g.X.Outside.faults g.X.Outside.refusals g.X.Outside.IsShort g.met.X.Outside.facts c.args.options.now c.args.now.0 c.args.self.now.pool _ _ _ _ (returns-clause-keeps g c)).makes

pub returns-clause-opens : goal.returns-clause-opens
returns-clause-opens g c = (kept-so g.X.Outside.does g.X.Outside.depth g.X.Outside.faults g.X.Outside.refusals g.X.Outside.IsShort g.met.X.Outside.facts c.args.options.now c.args.now.0 c.args.self.now.pool _ _ _ _ (returns-clause-keeps g c)).opens

pub returns-clause-most : goal.returns-clause-most
returns-clause-most g c = (kept-so g.X.Outside.does g.X.Outside.depth g.X.Outside.faults g.X.Outside.refusals g.X.Outside.IsShort g.met.X.Outside.facts c.args.options.now c.args.now.0 c.args.self.now.pool _ _ _ _ (returns-clause-keeps g c)).most

pub returns-clause-place : goal.returns-clause-place
returns-clause-place g c =
    kept-place g.X.Outside.does g.X.Outside.depth g.X.Outside.faults g.X.Outside.refusals g.X.Outside.IsShort g.met.X.Outside.facts c.args.options.now c.args.now.0 c.args.self.now.pool _ _
    (kept-so g.X.Outside.does g.X.Outside.depth g.X.Outside.faults g.X.Outside.refusals g.X.Outside.IsShort g.met.X.Outside.facts c.args.options.now c.args.now.0 c.args.self.now.pool _ _ _ _ (returns-clause-keeps g c))

pub returns-in-Rejected-clause-ends : goal.returns-in-Rejected-clause-ends
returns-in-Rejected-clause-ends g c = kept-ends g.X.Outside.does g.X.Outside.depth g.X.Outside.faults g.X.Outside.refusals g.X.Outside.IsShort g.met.X.Outside.facts c.args.options.now c.args.now.0 c.args.self.now.pool _ _ _ _ (returns-in-Rejected-clause-keeps g c)

pub returns-in-Rejected-clause-short : goal.returns-in-Rejected-clause-short
returns-in-Rejected-clause-short g c = kept-short g.X.Outside.does g.X.Outside.depth g.X.Outside.faults g.X.Outside.refusals g.X.Outside.IsShort g.met.X.Outside.facts c.args.options.now c.args.now.0 c.args.self.now.pool _ _ _ _ (returns-in-Rejected-clause-keeps g c)

pub returns-in-Failed-clause-ends : goal.returns-in-Failed-clause-ends
returns-in-Failed-clause-ends g c = kept-ends g.X.Outside.does g.X.Outside.depth g.X.Outside.faults g.X.Outside.refusals g.X.Outside.IsShort g.met.X.Outside.facts c.args.options.now c.args.now.0 c.args.self.now.pool _ _ _ _ (returns-in-Failed-clause-keeps g c)

pub returns-in-Failed-clause-short : goal.returns-in-Failed-clause-short
returns-in-Failed-clause-short g c = kept-short g.X.Outside.does g.X.Outside.depth g.X.Outside.faults g.X.Outside.refusals g.X.Outside.IsShort g.met.X.Outside.facts c.args.options.now c.args.now.0 c.args.self.now.pool _ _ _ _ (returns-in-Failed-clause-keeps g c)

pub returns-clause-ends : goal.returns-clause-ends
returns-clause-ends g c = kept-ends g.X.Outside.does g.X.Outside.depth g.X.Outside.faults g.X.Outside.refusals g.X.Outside.IsShort g.met.X.Outside.facts c.args.options.now c.args.now.0 c.args.self.now.pool _ _ _ _ (returns-clause-keeps g c)

pub returns-clause-short : goal.returns-clause-short
returns-clause-short g c = kept-short g.X.Outside.does g.X.Outside.depth g.X.Outside.faults g.X.Outside.refusals g.X.Outside.IsShort g.met.X.Outside.facts c.args.options.now c.args.now.0 c.args.self.now.pool _ _ _ _ (returns-clause-keeps g c)
