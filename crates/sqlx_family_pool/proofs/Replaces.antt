-- What a step of one pool leaves of a family: that pool's core changes, and of the others at most how many permits they own.
use Rattle.std.proofs.Common.{◌≡◌, ◌≢◌, ℕ, zero, suc, ◌+◌, ◌-◌, ◌<◌, Bool, true, false, List, [], ◌∷◌, length, get_or, sum_by, refl, sym, ap, ◌∙◌, subst, arith}
use Rattle.std.proofs.lemmas.List.{get_or-set_same, get_or-set_other, length-set}
use Rattle.std.proofs.lemmas.List.Sums.{sum_by-cons}
use Rattle.sqlx_pool_lists.specs.Core.{Core}
use Rattle.sqlx_pool_lists.specs.Shared.{with_permits}
use Rattle.sqlx_family.specs.declared.family.FamilyPool.{FamilyPool}
use Rattle.sqlx_family.specs.NoPool.{no_pool}
use Rattle.sqlx_pool_lists.specs.declared.steps.Start.{Start}
use Rattle.sqlx_pool_lists.specs.PollSteps.{started}
use Rattle.sqlx_family.specs.Pools.{Pools, entry_of, pool_in, with_pool}
use Rattle.sqlx_family.specs.RootLine.{takes_permit, granting}
use Rattle.sqlx_family.specs.Permits.{owned_by, with_less, moved, granted, settled_if, settled, stepped, retiring}
use Rattle.sqlx_family.proofs.LogLemmas.{core-retiring}
use Rattle.sqlx_family.proofs.PollLemmas.{entry-owning, pool-granted}
use Rattle.sqlx_pool.proofs.LeavesLemmas.{Leaves, start-leaves}

-- The core of one pool is this one but for its permits, and each other core is what it was but for its permits.
pub record Replaces {C : Type 0} (q : ℕ) (old : Pools C) (core : Core C) (new : Pools C) : Type 0 where
  pub names : length new.pools ≡ length old.pools
  pub here : (n : ℕ) × ((entry_of q new).core ≡ with_permits n core)
  pub others : (p : ℕ) → p ≢ q → (n : ℕ) × ((entry_of p new).core ≡ with_permits n (entry_of p old).core)

module _ {C : Type 0} (q : ℕ) (core : Core C) where
  pub replaces-with : (f : Pools C) → q < length f.pools → Replaces q f core (with_pool q core f)
  replaces-with f lt = record {
    names = length-set f.pools q put;
    here = (core.permits, ap (λ (p : FamilyPool C). p.core) (get_or-set_same f.pools q put no_pool lt));
    others = λ p ne. ((entry_of p f).core.permits, ap (λ (p : FamilyPool C). p.core) (get_or-set_other f.pools q p put no_pool ne));
  }
    where
      put : FamilyPool C
      put = record { core = core; retired = (entry_of q f).retired }

  -- permits move behind the step
  replaces-moved : (from to n : ℕ) (old f : Pools C) → from < length f.pools → to < length f.pools → Replaces q old core f → Replaces q old core (moved from to n f)
  replaces-moved from to n old f lt lt_to r =
      let less = length-set f.pools from (record { core = with_permits (owned_by from f - n) (entry_of from f).core; retired = (entry_of from f).retired }) in
      let within : to < length (with_less from n f).pools = omega (arith, less, lt_to) in
      let more = length-set (with_less from n f).pools to (record { core = with_permits (owned_by to (with_less from n f) + n) (entry_of to (with_less from n f)).core; retired = (entry_of to (with_less from n f)).retired }) in
      let one = λ (p : ℕ). entry-owning p from (owned_by from f - n) f lt in
      let two = λ (p : ℕ). entry-owning p to (owned_by to (with_less from n f) + n) (with_less from n f) within in
      let names = r.names in
      record {
        names = omega (arith, less, more, names);
        here = ((two q).0, (two q).1 ∙ ap (with_permits (two q).0) ((one q).1 ∙ ap (with_permits (one q).0) r.here.1));
        others = λ p ne. ((two p).0, (two p).1 ∙ ap (with_permits (two p).0) ((one p).1 ∙ ap (with_permits (one p).0) (r.others p ne).1));
      }

  replaces-settled_if : (b : Bool) (old f : Pools C) → q < length f.pools → Replaces q old core f → Replaces q old core (settled_if b q f)
  replaces-settled_if true old f lt r = replaces-moved q 0 _ old f lt (omega (arith, lt)) r
  replaces-settled_if false old f lt r = r

  replaces-settled : (old f : Pools C) → q < length f.pools → Replaces q old core f → Replaces q old core (settled q f)
  replaces-settled old f lt r = replaces-settled_if (entry_of q f).retired old f lt r

  pub replaces-stepped : (f : Pools C) → q < length f.pools → Replaces q f core (stepped q core f)
  replaces-stepped f lt =
      let r = replaces-with f lt in
      let names = r.names in
      replaces-settled f (with_pool q core f) (omega (arith, names, lt)) r

  -- a step behind the permit that a child may have taken
  pub replaces-polled : (takes : Bool) (f : Pools C) → q < length f.pools → Replaces q f core (stepped q core (granted takes q f))
  replaces-polled false f lt = replaces-stepped f lt
  replaces-polled true f lt =
      let less = length-set f.pools 0 (record { core = with_permits (owned_by 0 f - 1) (entry_of 0 f).core; retired = (entry_of 0 f).retired }) in
      let within : q < length (with_less 0 1 f).pools = omega (arith, less, lt) in
      let more = length-set (with_less 0 1 f).pools q (record { core = with_permits (owned_by q (with_less 0 1 f) + 1) (entry_of q (with_less 0 1 f)).core; retired = (entry_of q (with_less 0 1 f)).retired }) in
      let first : 0 < length f.pools = omega (arith, lt) in
      let one = λ (p : ℕ). entry-owning p 0 (owned_by 0 f - 1) f first in
      let two = λ (p : ℕ). entry-owning p q (owned_by q (with_less 0 1 f) + 1) (with_less 0 1 f) within in
      let r = replaces-stepped (moved 0 q 1 f) (omega (arith, less, more, lt)) in
      let names = r.names in
      record {
        names = omega (arith, less, more, names);
        here = r.here;
        others = λ p ne. ((r.others p ne).0, (r.others p ne).1 ∙ ap (with_permits (r.others p ne).0) ((two p).1 ∙ ap (with_permits (two p).0) (one p).1));
      }

  -- a step behind which the pool is retired
  pub replaces-retired : (f : Pools C) → q < length f.pools → Replaces q f core (settled q (retiring q (with_pool q core f)))
  replaces-retired f lt =
      let r = replaces-with f lt in
      let names = r.names in
      let within : q < length (with_pool q core f).pools = omega (arith, names, lt) in
      let long = length-set (with_pool q core f).pools q (record { core = (entry_of q (with_pool q core f)).core; retired = true }) in
      replaces-settled f (retiring q (with_pool q core f)) (omega (arith, names, long, lt)) (record {
        names = omega (arith, names, long);
        here = (r.here.0, core-retiring q q (with_pool q core f) within ∙ r.here.1);
        others = λ p ne. ((r.others p ne).0, core-retiring p q (with_pool q core f) within ∙ (r.others p ne).1);
      })

-- ---- sums over the pools

sum-same : {X : Type 0} (f : X → ℕ) (d : X) (xs ys : List X) → length ys ≡ length xs → ((p : ℕ) → f (get_or ys p d) ≡ f (get_or xs p d)) → sum_by f ys ≡ sum_by f xs
sum-same f d [] [] long each = refl
sum-same f d [] (y ∷ ys) long each = absurd (omega (arith, long))
sum-same f d (x ∷ xs) [] long each = absurd (omega (arith, long))
sum-same f d (x ∷ xs) (y ∷ ys) long each =
    let rest = sum-same f d xs ys (omega (arith, long)) (λ p. each (suc p)) in
    let head = each 0 in
    let a = sum_by-cons f x xs in
    let b = sum_by-cons f y ys in
    omega (arith, rest, head, a, b)

-- two lists that differ at one place
pub sum-but : {X : Type 0} (f : X → ℕ) (d : X) (xs ys : List X) (q : ℕ) → q < length xs → length ys ≡ length xs → ((p : ℕ) → p ≢ q → f (get_or ys p d) ≡ f (get_or xs p d))
    → sum_by f ys + f (get_or xs q d) ≡ sum_by f xs + f (get_or ys q d)
sum-but f d [] ys q lt long each = absurd (omega (arith, lt))
sum-but f d (x ∷ xs) [] q lt long each = absurd (omega (arith, long))
sum-but f d (x ∷ xs) (y ∷ ys) zero lt long each =
    let rest = sum-same f d xs ys (omega (arith, long)) (λ p. each (suc p) (λ e. absurd (omega (arith, e)))) in
    let a = sum_by-cons f x xs in
    let b = sum_by-cons f y ys in
    omega (arith, rest, a, b)
sum-but f d (x ∷ xs) (y ∷ ys) (suc q) lt long each =
    let rest = sum-but f d xs ys q (omega (arith, lt)) (omega (arith, long)) (λ p ne. each (suc p) (λ e. ne (omega (arith, e)))) in
    let head = each 0 (λ e. absurd (omega (arith, e))) in
    let a = sum_by-cons f x xs in
    let b = sum_by-cons f y ys in
    omega (arith, rest, head, a, b)

-- ---- by what the family is behind the step

module _ {C : Type 0} (q : ℕ) {core : Core C} (f : Pools C) {g : Pools C} (lt : q < length f.pools) where
  along : {h : Pools C} → g ≡ h → Replaces q f core h → Replaces q f core g
  along e r = subst (Replaces q f core) (sym e) r

  pub replaces-put : g ≡ with_pool q core f → Replaces q f core g
  replaces-put e = along e (replaces-with q core f lt)

  pub replaces-step : g ≡ stepped q core f → Replaces q f core g
  replaces-step e = along e (replaces-stepped q core f lt)

  pub replaces-retire : g ≡ settled q (retiring q (with_pool q core f)) → Replaces q f core g
  replaces-retire e = along e (replaces-retired q core f lt)

  pub replaces-poll : (k t m : ℕ) → g ≡ stepped q core (granting q k t m f) → Replaces q f core g
  replaces-poll k t m e = along e (replaces-polled q core (takes_permit q k t m f) f lt)

-- what a start leaves of its pool, behind the permit that the child may have taken
pub poll-leaves : {C : Type 0} (levels : C → ℕ) (q k t m : ℕ) (f : Pools C) (answer : Start C) → q < length f.pools → Leaves levels (pool_in q f) (started t m answer (pool_in q (granting q k t m f)))
poll-leaves {C} levels q k t m f answer lt =
    let had = pool-granted (takes_permit q k t m f) q f lt in
    let leaves = start-leaves levels t m answer (with_permits had.0 (pool_in q f)) in
    subst (λ (c : Core C). Leaves levels (pool_in q f) (started t m answer c)) (sym had.1) (record { options = leaves.options; rest = leaves.rest })
