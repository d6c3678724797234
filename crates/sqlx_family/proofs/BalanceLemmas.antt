-- What a step of one pool makes of the pool as its family sees it, and of its counts.
use Rattle.std.proofs.Common.{◌≡◌, ℕ, ◌<◌, Result, Ok, Err, IfOk, Bool, true, false, List, length, get_or, refl, sym, ap, ◌∙◌, subst, arith}
use Rattle.std.proofs.lemmas.List.{get_or-set_same, length-set}
use Rattle.std.specs.Prelude.{slice_set}
use Rattle.sqlx_pool_marks.specs.declared.mark.Mark.{Mark}
use Rattle.sqlx_pool_lists.specs.declared.shared.Shared.{Shared}
use Rattle.sqlx_pool_lists.specs.declared.steps.Start.{Start}
use Rattle.sqlx_pool_lists.specs.Core.{Core}
use Rattle.sqlx_pool_lists.specs.Balance.{Balance}
use Rattle.sqlx_pool_lists.specs.PollSteps.{phase_for, start_marks}
use Rattle.sqlx_pool_lists.specs.Shared.{told, shared_of, with_permits}
use Rattle.sqlx_family.specs.declared.family.FamilyPool.{FamilyPool}
use Rattle.sqlx_family.specs.NoPool.{no_pool}
use Rattle.sqlx_family.specs.Pools.{Pools, pools_of, entry_of, counts_as_closed, pool_in}
use Rattle.sqlx_family.specs.Permits.{settled_if, settled, granted, retiring}
use Rattle.sqlx_family.proofs.LogLemmas.{pool-heard, pool-retiring}
use Rattle.sqlx_family.proofs.PollLemmas.{pool-moved, pool-granted}

pool-settled_if : {C : Type 0} (b : Bool) (q : ℕ) (f : Pools C) → q < length f.pools → (m : ℕ) × (pool_in q (settled_if b q f) ≡ with_permits m (pool_in q f))
pool-settled_if true q f lt = pool-moved q q 0 _ f lt (omega (arith, lt))
pool-settled_if false q f lt = ((pool_in q f).permits, refl)

-- a pool that hands its free permits over is the same but for its permits
pub pool-settled : {C : Type 0} (q : ℕ) (f : Pools C) → q < length f.pools → (m : ℕ) × (pool_in q (settled q f) ≡ with_permits m (pool_in q f))
pool-settled q f lt = pool-settled_if (entry_of q f).retired q f lt

module _ {C : Type 0} {made : List Mark} {backs room : ℕ} where
  -- The counts of a pool are what they are, whatever it hears and owns.
  balance-told : (closed : Bool) (old new : Core C) → Balance old new made backs room → Balance old (told closed (shared_of new) new) made backs room
  balance-told closed old new b = record { tickets = b.tickets; numbers = b.numbers; held = b.held; paid = b.paid }

  balance-permits : (m : ℕ) (old new : Core C) → Balance old new made backs room → Balance old (with_permits m new) made backs room
  balance-permits m old new b = record { tickets = b.tickets; numbers = b.numbers; held = b.held; paid = b.paid }

  balance-permits-old : (m : ℕ) (old new : Core C) → Balance (with_permits m old) new made backs room → Balance old new made backs room
  balance-permits-old m old new b = record { tickets = b.tickets; numbers = b.numbers; held = b.held; paid = b.paid }

-- A step of one pool, in the family as it was (now): the pool (old) heard of the family (mid) and made its step (new).
module _ {C : Type 0} (xs : List (FamilyPool C)) (h : Shared) (now : Pools C) (i : ℕ) (old : FamilyPool C) (mid new : Core C) (view : pools_of xs h ≡ now) (lt : i < length xs) (is : old ≡ get_or xs i old)
    (closed : Bool) (counts : closed ≡ counts_as_closed i now) (heard : mid ≡ told closed h old.core) where
  abbrev ys : List (FamilyPool C)
  ys = slice_set xs i (record { core = new; retired = old.retired })

  -- what holds of the pool before and behind holds of it as the family sees it
  pool-after : (W : Core C → Core C → Type 0) → W mid (told (counts_as_closed i (pools_of ys (shared_of new))) (shared_of new) new) → W (pool_in i now) (pool_in i (pools_of ys (shared_of new)))
  pool-after W w =
      subst (λ (m : Core C). W m (pool_in i (pools_of ys (shared_of new)))) (sym (pool-heard xs h now i old mid view lt is closed counts heard))
      (subst (λ (e : FamilyPool C). W mid (told (counts_as_closed i (pools_of ys (shared_of new))) (shared_of new) e.core)) (sym (get_or-set_same xs i (record { core = new; retired = old.retired }) no_pool lt)) w)

  module _ (of : Core C → List Mark) {backs room : ℕ} (balance : Balance mid new (of mid) backs room) where
    pub balance-kept : {after : Shared} → after ≡ shared_of new → Balance (pool_in i now) (pool_in i (pools_of (slice_set xs i (record { core = new; retired = old.retired })) after)) (of (pool_in i now)) backs room
    balance-kept tells =
        subst (λ (a : Shared). Balance (pool_in i now) (pool_in i (pools_of ys a)) (of (pool_in i now)) backs room) (sym tells)
        (pool-after (λ (o n : Core C). Balance o n (of o) backs room) (balance-told (counts_as_closed i (pools_of ys (shared_of new))) mid new balance))

    pub balance-stepped : (after : Pools C) → after ≡ settled i (pools_of (slice_set xs i (record { core = new; retired = old.retired })) (shared_of new)) → Balance (pool_in i now) (pool_in i after) (of (pool_in i now)) backs room
    balance-stepped after settles =
        let k = length-set xs i (record { core = new; retired = old.retired }) in
        let s = pool-settled i (pools_of ys (shared_of new)) (omega (arith, k, lt)) in
        subst (λ (a : Pools C). Balance (pool_in i now) (pool_in i a) (of (pool_in i now)) backs room) (sym settles)
        (subst (λ (n : Core C). Balance (pool_in i now) n (of (pool_in i now)) backs room) (sym s.1)
        (balance-permits s.0 (pool_in i now) (pool_in i (pools_of ys (shared_of new))) (balance-kept refl)))

  -- an ask, which may be refused
  pub balance-asked : {E : Type 0} (r : Result ℕ E) (of : Core C → ℕ → List Mark) (room : Core C → ℕ) → IfOk r (λ t. Balance mid new (of mid t) 0 (room mid)) → {after : Shared} → after ≡ shared_of new
      → IfOk r (λ t. Balance (pool_in i now) (pool_in i (pools_of (slice_set xs i (record { core = new; retired = old.retired })) after)) (of (pool_in i now) t) 0 (room (pool_in i now)))
  balance-asked (Err e) of room b tells = tt
  balance-asked (Ok t) of room b tells =
      subst (λ (a : Shared). Balance (pool_in i now) (pool_in i (pools_of ys a)) (of (pool_in i now) t) 0 (room (pool_in i now))) (sym tells)
      (pool-after (λ (o n : Core C). Balance o n (of o t) 0 (room o)) (balance-told (counts_as_closed i (pools_of ys (shared_of new))) mid new b))

-- a poll, behind the permit that the child may have taken
pub balance-granted : {C : Type 0} (takes : Bool) (q k t : ℕ) (f new : Pools C) (r : Start C) → q < length f.pools
    → Balance (pool_in q (granted takes q f)) (pool_in q new) (start_marks t (phase_for k t (pool_in q (granted takes q f)).tickets) r) 0 0
    → Balance (pool_in q f) (pool_in q new) (start_marks t (phase_for k t (pool_in q f).tickets) r) 0 0
balance-granted {C} takes q k t f new r lt b =
    let had = pool-granted takes q f lt in
    balance-permits-old had.0 (pool_in q f) (pool_in q new)
    (subst (λ (c : Core C). Balance c (pool_in q new) (start_marks t (phase_for k t c.tickets) r) 0 0) had.1 b)

-- a close by which the pool is retired from now on
pub balance-retired : {C : Type 0} (old f after : Pools C) (q : ℕ) (made : List Mark) {backs room : ℕ} → q < length f.pools → Balance (pool_in q old) (pool_in q f) made backs room → after ≡ settled q (retiring q f)
    → Balance (pool_in q old) (pool_in q after) made backs room
balance-retired {C} old f after q made {backs} {room} lt b settles =
    let k = length-set f.pools q (record { core = (entry_of q f).core; retired = true }) in
    let s = pool-settled q (retiring q f) (omega (arith, k, lt)) in
    subst (λ (a : Pools C). Balance (pool_in q old) (pool_in q a) made backs room) (sym settles)
    (subst (λ (n : Core C). Balance (pool_in q old) n made backs room) (sym (s.1 ∙ ap (with_permits s.0) (pool-retiring q q f lt)))
    (balance-permits s.0 (pool_in q old) (pool_in q f) b))
