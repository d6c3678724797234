-- A begin by a text of the caller's own, case by case.
use Rattle.std.proofs.Common.{◌≡◌, ◌⊎◌, ℕ, zero, suc, ◌<◌, Option, Some, None, Ok, Err, refl, sym, subst, arith}
use Rattle.sqlx_text.specs.declared.error.Error.TheVariants as error
use Rattle.sqlx_traits.specs.Calls.{Outcome}
use Rattle.mem_store.specs.Acts.{refusal_of}
use Rattle.mem_store.specs.Errors.{error_of}
use Rattle.mem_store.specs.declared.act.Act.{Act}
use Rattle.mem_store.specs.declared.refusal.Refusal.{Refusal}
use Rattle.mem_driver.specs.Backend.{BeginsAt, BeginsBy, HasBegun}
use Rattle.mem_driver.specs.Session.{Session, acted, depth, fault_counted, refused}

-- a level is open
pub has_begun : (levels : ℕ) (left after : Session) → 0 < levels → after ≡ left → HasBegun levels left (Ok tt) after
has_begun zero left after some is = absurd (omega arith)
has_begun (suc levels) left after some is = (refl, is)

-- no level is open
pub has_failed : (levels : ℕ) (left after : Session) → levels ≡ 0 → after ≡ fault_counted left → HasBegun levels left (Err error.BeginFailed) after
has_failed zero left after none is = (refl, is)
has_failed (suc levels) left after none is = absurd (omega arith)

-- the act that was asked for isn't refused
pub begins-run : (asked : Option Act) (act : Act) (before : Session) (met : Option Refusal) (outcome : Outcome) (after : Session) → asked ≡ Some act → met ≡ None
    → HasBegun (depth (acted act before)) (acted act before) outcome after ⊎ ((outcome ≡ Err error.OutOfMemory) × (after ≡ before)) → BeginsBy asked before met outcome after
begins-run asked act before met outcome after is free came =
    subst (λ m. BeginsBy asked before m outcome after) (sym free) (subst (λ a. BeginsBy a before None outcome after) (sym is) came)

-- it is refused
pub begins-refused : (asked : Option Act) (reason : Refusal) (before : Session) (met : Option Refusal) (outcome : Outcome) (after : Session) → met ≡ Some reason
    → (outcome ≡ Err (error_of reason)) × (after ≡ refused before) → BeginsBy asked before met outcome after
begins-refused asked reason before met outcome after is came = subst (λ m. BeginsBy asked before m outcome after) (sym is) came

-- no level is open before it
pub begins-outside : (levels : ℕ) (asked told : Option Act) (before : Session) (outcome : Outcome) (after : Session) → levels ≡ 0 → told ≡ asked
    → BeginsBy told before (refusal_of told before.work) outcome after → BeginsAt levels asked before outcome after
begins-outside levels asked told before outcome after none same came =
    subst (λ n. BeginsAt n asked before outcome after) (sym none) (subst (λ a. BeginsBy a before (refusal_of a before.work) outcome after) same came)
