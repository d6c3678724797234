-- The depth after a level was begun or ended.
use Rattle.std.proofs.Common.{◌≡◌, ℕ, zero, suc, ◌+◌, ◌-◌, ◌≤◌, nat_lt, Bool, true, false, cond, Option, Some, None, List, refl, ◌∙◌, arith}
use Rattle.std.specs.Prelude.{is_some, option_map, unwrap_or, if◌then◌else◌}
use Rattle.sqlx_savepoints.specs.Rows.{Rows, Writes}
use Rattle.sqlx_savepoints.specs.NamedSavepoints.{Entry, newest, pushed, ran, released, restored}
use Rattle.sqlx_savepoints.specs.Texts.{begin_at, commit_at, rollback_at}
use Rattle.sqlx_savepoints.specs.declared.level_text.LevelText.{LevelText}
use Rattle.sqlx_savepoints.specs.declared.level_text.LevelText.TheVariants.{Begin, BeginImmediate, Commit, Rollback, Savepoint, Release, RollbackTo}
use Rattle.mem_store.specs.declared.act.Act.{Act}
use Rattle.mem_store.specs.declared.act.Act.TheVariants.{Put, Delete, Get, SelectAll, SelectOne, Level}
use Rattle.mem_store.specs.declared.refusal.Refusal.{Refusal}
use Rattle.mem_store.specs.declared.refusal.Refusal.TheVariants.{Unread}
use Rattle.mem_store.specs.Store.{Session}
use Rattle.mem_store.specs.Acts.{after_act, level_refusal, refusal_here, unallowed}

one_less : (d : ℕ) → suc d ≡ suc (suc d) - 1
one_less d = omega arith

released_lowers : (rows : Rows) (own : Writes) (entries : List Entry) (d : ℕ) (found : Option (Writes × List Entry))
    → ◌≡◌ {A = Option Refusal} (if is_some (option_map (released (record { rows = rows; own = own; entries = entries; depth = suc (suc d) })) found) then None else Some Unread) None
    → (unwrap_or (option_map (released (record { rows = rows; own = own; entries = entries; depth = suc (suc d) })) found) (record { rows = rows; own = own; entries = entries; depth = suc (suc d) })).depth ≡ suc d
released_lowers rows own entries d None e = absurd cc
released_lowers rows own entries d (Some (kept, older)) e = refl

restored_lowers : (rows : Rows) (own : Writes) (entries : List Entry) (d : ℕ) (found : Option (Writes × List Entry))
    → ◌≡◌ {A = Option Refusal} (if is_some (option_map (restored (suc d) (record { rows = rows; own = own; entries = entries; depth = suc (suc d) })) found) then None else Some Unread) None
    → (unwrap_or (option_map (restored (suc d) (record { rows = rows; own = own; entries = entries; depth = suc (suc d) })) found) (record { rows = rows; own = own; entries = entries; depth = suc (suc d) })).depth ≡ suc d
restored_lowers rows own entries d None e = absurd cc
restored_lowers rows own entries d (Some (kept, older)) e = refl

-- a level that could be committed: one less is open
pub commit_lowers : (rows : Rows) (own : Writes) (entries : List Entry) (depth : ℕ) → 1 ≤ depth
    → level_refusal (commit_at depth) (record { rows = rows; own = own; entries = entries; depth = depth }) ≡ None
    → (ran (commit_at depth) (record { rows = rows; own = own; entries = entries; depth = depth })).depth ≡ depth - 1
commit_lowers rows own entries zero some e = absurd (omega arith)
commit_lowers rows own entries (suc zero) some e = refl
commit_lowers rows own entries (suc (suc d)) some e = released_lowers rows own entries d (newest (suc d) entries) e ∙ one_less d

pub rollback_lowers : (rows : Rows) (own : Writes) (entries : List Entry) (depth : ℕ) → 1 ≤ depth
    → level_refusal (rollback_at depth) (record { rows = rows; own = own; entries = entries; depth = depth }) ≡ None
    → (ran (rollback_at depth) (record { rows = rows; own = own; entries = entries; depth = depth })).depth ≡ depth - 1
rollback_lowers rows own entries zero some e = absurd (omega arith)
rollback_lowers rows own entries (suc zero) some e = refl
rollback_lowers rows own entries (suc (suc d)) some e = restored_lowers rows own entries d (newest (suc d) entries) e ∙ one_less d

begun_raises : (rows : Rows) (own : Writes) (entries : List Entry) (d : ℕ) (b : Bool)
    → ◌≡◌ {A = Option Refusal} (if is_some (cond b (Some (pushed (suc d) (record { rows = rows; own = own; entries = entries; depth = suc d }))) None) then None else Some (unallowed (Savepoint (suc d)) (suc d))) None
    → (unwrap_or (cond b (Some (pushed (suc d) (record { rows = rows; own = own; entries = entries; depth = suc d }))) None) (record { rows = rows; own = own; entries = entries; depth = suc d })).depth ≡ suc d + 1
begun_raises rows own entries d true e = omega arith
begun_raises rows own entries d false e = absurd cc

-- a level that could be begun: one more is open
pub begin_raises : (rows : Rows) (own : Writes) (entries : List Entry) (depth : ℕ)
    → level_refusal (begin_at depth) (record { rows = rows; own = own; entries = entries; depth = depth }) ≡ None
    → (ran (begin_at depth) (record { rows = rows; own = own; entries = entries; depth = depth })).depth ≡ depth + 1
begin_raises rows own entries zero e = refl
begin_raises rows own entries (suc d) e = begun_raises rows own entries d (nat_lt (suc d) 100) e

-- an act outside of a level leaves none or one
pub outside_leaves : (act : Act) (work : Session) → work.link.depth ≡ 0 → refusal_here (Some act) work ≡ None → (after_act act work).link.depth ≤ 1
outside_leaves (Put key value) work none free = rw none (omega arith)
outside_leaves (Delete key) work none free = rw none (omega arith)
outside_leaves (Get key) work none free = omega (arith, none)
outside_leaves SelectAll work none free = omega (arith, none)
outside_leaves SelectOne work none free = omega (arith, none)
outside_leaves (Level level) work none free = of_level level work.store.rows work.link.own work.link.entries work.link.depth none where
  of_level : (level : LevelText) (rows : Rows) (own : Writes) (entries : List Entry) (depth : ℕ) → depth ≡ 0 → (ran level (record { rows = rows; own = own; entries = entries; depth = depth })).depth ≤ 1
  of_level level rows own entries (suc d) none = absurd (omega arith)
  of_level Begin rows own entries zero none = omega arith
  of_level BeginImmediate rows own entries zero none = omega arith
  of_level Commit rows own entries zero none = omega arith
  of_level Rollback rows own entries zero none = omega arith
  of_level (Savepoint name) rows own entries zero none = omega arith
  of_level (Release name) rows own entries zero none = omega arith
  of_level (RollbackTo name) rows own entries zero none = omega arith
