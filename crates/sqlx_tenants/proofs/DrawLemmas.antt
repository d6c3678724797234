-- What each call draws.
use Rattle.std.proofs.Common.{◌≡◌, ℕ, ◌+◌, ◌≤◌, Bool, true, false, ap, refl, ◌∙◌, arith, Option, Some, None}
use Rattle.sqlx_pool_lists.specs.declared.shared.Shared.{Shared}
use Rattle.sqlx_pool_lists.specs.declared.steps.Start.{Start}
use Rattle.sqlx_pool_lists.specs.declared.steps.Start.TheVariants as start
use Rattle.sqlx_pool_lists.specs.declared.steps.AfterTest.{AfterTest}
use Rattle.sqlx_pool_lists.specs.declared.steps.AfterTest.TheVariants as tested
use Rattle.sqlx_pool_lists.specs.declared.steps.AfterConnect.{AfterConnect}
use Rattle.sqlx_pool_lists.specs.declared.steps.AfterConnect.TheVariants as connected
use Rattle.sqlx_pool_lists.specs.declared.steps.Given.{Given}
use Rattle.sqlx_pool_lists.specs.declared.steps.Given.TheVariants as given
use Rattle.sqlx_pool_lists.specs.declared.steps.Lent.{Lent}
use Rattle.sqlx_pool_lists.specs.declared.ticket.OwnedConn.{OwnedConn}
use Rattle.sqlx_pool_lists.specs.Core.{Core}
use Rattle.sqlx_pool_lists.specs.PollSteps.{started, after_test, after_connect}
use Rattle.sqlx_pool_lists.specs.MaintenanceSteps.{closed_from}
use Rattle.sqlx_pool_lists.specs.Shared.{shared_of}
use Rattle.sqlx_pool_core.specs.ReturnSteps.{core_after_give}
use Rattle.sqlx_family.specs.Pools.{entry_of, pool_in, with_pool}
use Rattle.sqlx_family.specs.RootLine as line
use Rattle.sqlx_family.specs.Permits as permits
use Rattle.sqlx_tenants.specs.Draws.{Draws}
use Rattle.sqlx_tenants.proofs.Alike.{Family}

-- a core that draws one number of each kind at most
abbrev pub CoreDraws : Core (Unit {0}) → Core (Unit {0}) → Type 0
CoreDraws old new = (new.next_ticket ≤ old.next_ticket + 1) × (new.next_conn ≤ old.next_conn + 1)

-- a core that draws none
abbrev pub CoreKeeps : Core (Unit {0}) → Core (Unit {0}) → Type 0
CoreKeeps old new = (new.next_ticket ≡ old.next_ticket) × (new.next_conn ≡ old.next_conn)

draws-kept : (old new : Core (Unit {0})) → CoreKeeps old new → CoreDraws old new
draws-kept old new k = let a = k.0 in let b = k.1 in (omega (arith, a), omega (arith, b))

pub started-keeps : (t m : ℕ) (r : Start (Unit {0})) (core : Core (Unit {0})) → CoreKeeps core (started t m r core)
started-keeps t m start.NotHeld core = (refl, refl)
started-keeps t m start.Closed core = (refl, refl)
started-keeps t m start.TimedOut core = (refl, refl)
started-keeps t m start.Exhausted core = (refl, refl)
started-keeps t m start.Waiting core = (refl, refl)
started-keeps t m (start.Backoff until) core = (refl, refl)
started-keeps t m (start.Test i) core = (refl, refl)
started-keeps t m start.Connect core = (refl, refl)

pub tested-keeps : (k t : ℕ) (r : AfterTest (Unit {0})) (core : Core (Unit {0})) → CoreKeeps core (after_test k t r core)
tested-keeps k t (tested.NotHeld verdict) core = (refl, refl)
tested-keeps k t (tested.Closed raw) core = (refl, refl)
tested-keeps k t (tested.Ready lent) core = (refl, refl)
tested-keeps k t (tested.Test i) core = (refl, refl)
tested-keeps k t tested.Connect core = (refl, refl)

pub connected-draws : (k t m : ℕ) (r : AfterConnect (Unit {0})) (core : Core (Unit {0})) → CoreDraws core (after_connect k t m r core)
connected-draws k t m (connected.NotHeld tried) core = (omega arith, omega arith)
connected-draws k t m (connected.Closed raw) core = (omega arith, omega arith)
connected-draws k t m (connected.Ready lent) core = (omega arith, omega arith)
connected-draws k t m (connected.Backoff until) core = (omega arith, omega arith)
connected-draws k t m connected.Ended core = (omega arith, omega arith)

pub given-keeps : (h : Option OwnedConn) (lent : Lent (Unit {0})) (m : ℕ) (r : Given (Unit {0})) (core : Core (Unit {0})) → CoreKeeps core (core_after_give h lent m r core)
given-keeps (Some h) lent m given.Kept core = (refl, refl)
given-keeps None lent m given.Kept core = (refl, refl)
given-keeps h lent m (given.Closed raw) core = (refl, refl)
given-keeps h lent m (given.NotHeld raw) core = (refl, refl)

pub closed-keeps : (b : Bool) (core : Core (Unit {0})) → CoreKeeps core (closed_from b core)
closed-keeps true core = (refl, refl)
closed-keeps false core = (refl, refl)

-- ---- families

settled-shared : (b : Bool) (q : ℕ) (g : Family) → (permits.settled_if b q g).shared ≡ g.shared
settled-shared true q g = refl
settled-shared false q g = refl

granted-shared : (b : Bool) (q : ℕ) (g : Family) → (permits.granted b q g).shared ≡ g.shared
granted-shared true q g = refl
granted-shared false q g = refl

-- what a step leaves is what its pool tells
pub stepped-shared : (q : ℕ) (core : Core (Unit {0})) (f new : Family) → new ≡ permits.stepped q core f → new.shared ≡ shared_of core
stepped-shared q core f new e = ap (λ (g : Family). g.shared) e ∙ settled-shared (entry_of q (with_pool q core f)).retired q (with_pool q core f)

pub stepped-draws : (q : ℕ) (core : Core (Unit {0})) (f new : Family) → new ≡ permits.stepped q core f → CoreDraws (pool_in q f) core → Draws f.shared new.shared
stepped-draws q core f new e d = let s = stepped-shared q core f new e in let a = ap (λ (h : Shared). h.next_ticket) s in let b = ap (λ (h : Shared). h.next_conn) s in let t = d.0 in let c = d.1 in (omega (arith, a, t), omega (arith, b, c))

pub stepped-keeps : (q : ℕ) (core : Core (Unit {0})) (f new : Family) → new ≡ permits.stepped q core f → CoreKeeps (pool_in q f) core → Draws f.shared new.shared
stepped-keeps q core f new e k = stepped-draws q core f new e (draws-kept (pool_in q f) core k)

-- a start
pub start-numbers : (q client t m : ℕ) (r : Start (Unit {0})) (f f1 : Family) → f1 ≡ permits.stepped q (started t m r (pool_in q (line.granting q client t m f))) (line.granting q client t m f)
    → (f1.shared.next_ticket ≡ f.shared.next_ticket) × (f1.shared.next_conn ≡ f.shared.next_conn)
start-numbers q client t m r f f1 e =
    let g = line.granting q client t m f in
    let s = stepped-shared q (started t m r (pool_in q g)) g f1 e in
    let k = started-keeps t m r (pool_in q g) in
    let shared = granted-shared (line.takes_permit q client t m f) q f in
    (ap (λ (h : Shared). h.next_ticket) s ∙ k.0 ∙ ap (λ (h : Shared). h.next_ticket) shared, ap (λ (h : Shared). h.next_conn) s ∙ k.1 ∙ ap (λ (h : Shared). h.next_conn) shared)

-- a start, and then a step that draws one number at most
pub draws-behind : (f f1 new : Family) → (f1.shared.next_ticket ≡ f.shared.next_ticket) × (f1.shared.next_conn ≡ f.shared.next_conn) → Draws f1.shared new.shared → Draws f.shared new.shared
draws-behind f f1 new same d = let a = same.0 in let b = same.1 in let t = d.0 in let c = d.1 in (omega (arith, a, t), omega (arith, b, c))

pub draws-same : (f f1 : Family) → (f1.shared.next_ticket ≡ f.shared.next_ticket) × (f1.shared.next_conn ≡ f.shared.next_conn) → Draws f.shared f1.shared
draws-same f f1 same = let a = same.0 in let b = same.1 in (omega (arith, a), omega (arith, b))

-- a retiring
pub retired-draws : (q : ℕ) (b : Bool) (f new : Family) → new ≡ permits.settled q (permits.retiring q (with_pool q (closed_from b (pool_in q f)) f)) → Draws f.shared new.shared
retired-draws q b f new e =
    let g = permits.retiring q (with_pool q (closed_from b (pool_in q f)) f) in
    let s = ap (λ (h : Family). h.shared) e ∙ settled-shared (entry_of q g).retired q g in
    let k = closed-keeps b (pool_in q f) in
    let a = ap (λ (h : Shared). h.next_ticket) s ∙ k.0 in
    let c = ap (λ (h : Shared). h.next_conn) s ∙ k.1 in
    (omega (arith, a), omega (arith, c))

-- an ask
pub asked-draws : (q : ℕ) (core : Core (Unit {0})) (f new : Family) → new ≡ with_pool q core f → CoreDraws (pool_in q f) core → Draws f.shared new.shared
asked-draws q core f new e d = let a = ap (λ (h : Family). h.shared.next_ticket) e in let b = ap (λ (h : Family). h.shared.next_conn) e in let t = d.0 in let c = d.1 in (omega (arith, a, t), omega (arith, b, c))
