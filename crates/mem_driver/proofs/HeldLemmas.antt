-- A session that goes over the store that the lock held.
use Rattle.std.proofs.Common.{◌≡◌, ap, subst, ◌∙◌}
use Rattle.mem_store.specs.Store.{Store}
use Rattle.mem_driver.specs.Session.{Session}
use Rattle.mem_driver.specs.Shared.{OnHeld, over}

-- the held store was put in, the session went, and its own store was put back
pub on_held : (goes : Session → Session → Type 0) (before swapped left after : Session) (held back : Store)
    → swapped ≡ over held before → goes swapped left → after ≡ over back left → back ≡ before.work.store → OnHeld goes before after
on_held goes before swapped left after held back is went put own = (held, left, subst (λ s. goes s left) is went, put ∙ ap (λ s. over s left) own)
