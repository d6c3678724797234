-- A level that can be begun is begun at a depth below the greatest.
use Rattle.std.proofs.Common.{◌≡◌, ℕ, zero, suc, ◌<◌, nat_lt, Bool, true, false, cond, Option, Some, None, refl, arith}
use Rattle.mem_store.specs.Store.{Store, Link}
use Rattle.mem_store.specs.Acts.{IsFree, level_refusal, unallowed}
use Rattle.sqlx_play_acts.specs.ClientActs.{statement_at}
use Rattle.sqlx_play_acts.specs.declared.act.Act.TheVariants.{Begin}
use Rattle.std.proofs.lemmas.Bool.{ltb-true}
use Rattle.std.specs.Prelude.{is_some, if◌then◌else◌, List}
use Rattle.sqlx_savepoints.specs.Rows.{Rows, Writes}
use Rattle.sqlx_savepoints.specs.NamedSavepoints.{Entry, pushed}
use Rattle.sqlx_savepoints.specs.Texts.{begin_at}
use Rattle.sqlx_savepoints.specs.declared.level_text.LevelText.TheVariants.{Savepoint}
use Rattle.mem_store.specs.declared.refusal.Refusal.{Refusal}

by_test : (rows : Rows) (own : Writes) (entries : List Entry) (d : ℕ) (b : Bool) → nat_lt (suc d) 100 ≡ b
    → ◌≡◌ {A = Option Refusal} (if is_some (cond b (Some (pushed (suc d) (record { rows = rows; own = own; entries = entries; depth = suc d }))) None) then None else Some (unallowed (Savepoint (suc d)) (suc d))) None
    → suc d < 100
by_test rows own entries d true is e = ltb-true (suc d) 100 is
by_test rows own entries d false is e = absurd cc

of_depth : (rows : Rows) (own : Writes) (entries : List Entry) (depth : ℕ) → level_refusal (begin_at depth) (record { rows = rows; own = own; entries = entries; depth = depth }) ≡ None → depth < 100
of_depth rows own entries zero e = omega arith
of_depth rows own entries (suc d) e = by_test rows own entries d (nat_lt (suc d) 100) refl e

pub begun_is_shallow : (store : Store) (link : Link) → IsFree (statement_at Begin link.depth) store link → link.depth < 100
begun_is_shallow store link e = of_depth store.rows link.own link.entries link.depth e
