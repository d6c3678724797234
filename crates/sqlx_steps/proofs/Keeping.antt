-- A database that keeps a version, after an apply and for other steps.
use Rattle.std.proofs.Common.{◌≡◌, inr, ℕ, suc, ◌+◌, ◌≤◌, max, ℤ, pos, negsuc, Bool, true, false, cond, Option, List, [], ◌∷◌, length, take, drop, Result, Ok, Err, IfOk, IsErr, refl, sym, ap, subst, ◌∙◌, length-drop, arith}
use Rattle.std.specs.FinMap.{get, empty, get-empty}
use Rattle.std.specs.Ordering.{int_cmp}
use Rattle.std.proofs.lemmas.List.{length-take-le}
use Rattle.sqlx_savepoints.specs.Rows.{Rows, seen, sees}
use Rattle.mem_store.specs.Store.{Store, Link, new_store, new_link, connected}
use Rattle.mem_driver.specs.Session.{Link as DriverLink}
use Rattle.sqlx_single.specs.Single.{Rests}
use Rattle.sqlx_steps_rules.specs.declared.event.Write.{Write}
use Rattle.sqlx_steps_rules.specs.declared.reply.Reply.{Reply}
use Rattle.sqlx_steps_rules.specs.declared.reply.Reply.TheVariants as reply
use Rattle.sqlx_steps_rules.specs.Rules.{rows_of, all_changed, cost, all_run, applied_of, version_reached, apply_reply, version_by}
use Rattle.sqlx_steps.specs.declared.applied.Applied.{Applied}
use Rattle.sqlx_steps.specs.declared.applied.Applied.TheVariants.{Done, Stopped, OutOfMemory}
use Rattle.sqlx_steps.specs.declared.database.Database.{Database}
use Rattle.sqlx_steps.specs.Applies.{IsAtVersion, Applies, AppliesAs, Told, version_left}
use Rattle.sqlx_steps.specs.Keeps.{Keeps}

-- ---- version 0 is the same of all steps

at_anew : (steps steps' : List (List Write)) (n v : ℕ) (store : Store) (link : Link) → v ≡ 0 → IsAtVersion steps n v store link → IsAtVersion steps' n v store link
at_anew steps steps' n v store link zero h = record {
  rows = h.rows;
  rests = h.rests;
  holds = record {
    tells = h.holds.tells;
    others = λ key not. h.holds.others key not ∙ ap (λ k. get (rows_of steps k) key) zero ∙ sym (ap (λ k. get (rows_of steps' k) key) zero);
  };
}

pub keeps_anew : (steps steps' : List (List Write)) (v : ℕ) (database : Database) → v ≡ 0 → Keeps steps v database → Keeps steps' v database
keeps_anew steps steps' v database zero k = record {
  told = k.told;
  within = omega (arith, zero);
  link = k.link;
  rests = k.rests;
  number = k.number;
  at = at_anew steps steps' k.number v database.store k.link.side zero k.at;
}

-- ---- how far an apply comes

applied-below : (f t : ℕ) (steps : List (List Write)) → applied_of f t steps ≤ length steps
unfolding applied_of
applied-below f t [] = omega arith
applied-below f t (s ∷ steps) =
    let more : applied_of f (t + cost s) steps ≤ length steps = applied-below f (t + cost s) steps in
    elim (all_run f (t + cost s)) as (λ b. cond b (suc (applied_of f (t + cost s) steps)) 0 ≤ length (s ∷ steps)) [ true ↦ omega (arith, more) | false ↦ omega arith ]

reached-below : (steps : List (List Write)) (v n f : ℕ) → n ≤ length steps → version_reached steps v n f ≤ max v n
reached-below steps v n f inside =
    let rest : applied_of f 0 (drop v (take n steps)) ≤ length (drop v (take n steps)) = applied-below f 0 (drop v (take n steps)) in
    omega (arith, rest, length-drop v (take n steps), length-take-le n steps inside)

-- the version that a reply tells
version_told : (v reached : ℕ) (b : Bool) → version_by v (cond b (reply.Applied reached) (reply.Stopped reached)) ≡ reached
version_told v reached true = refl
version_told v reached false = refl

pub applied_within : (steps : List (List Write)) (v upto f : ℕ) (applied : Applied) → upto ≤ length steps → v ≤ length steps → AppliesAs steps v upto f applied → version_left applied ≤ length steps
applied_within steps v upto f (Done V) inside before h =
    let is : version_reached steps v upto f ≡ V = sym (version_told 0 (version_reached steps v upto f) _) ∙ ap (version_by 0) h in
    omega (arith, is, reached-below steps v upto f inside)
applied_within steps v upto f (Stopped V) inside before h =
    let is : version_reached steps v upto f ≡ V = sym (version_told 0 (version_reached steps v upto f) _) ∙ ap (version_by 0) h in
    omega (arith, is, reached-below steps v upto f inside)
applied_within steps v upto f (OutOfMemory V) inside before h = omega (arith, h.0, h.1)

-- ---- what is told

no_error : false ≡ true → ⊥
no_error e = cc

no_reply : {E : Type 0} (P : Reply → Type 0) (result : Result Reply E) → IsErr result → IfOk result P
no_reply P (Ok r) h = absurd (no_error h)
no_reply P (Err e) h = tt

pub told_due : {E : Type 0} (steps : List (List Write)) (v upto f : ℕ) (applied : Applied) (result : Result Reply E) → AppliesAs steps v upto f applied → Told applied result
    → IfOk result (λ r. r ≡ apply_reply upto (version_reached steps v upto f))
told_due {E} steps v upto f (Done V) result h is = subst (λ (x : Result Reply E). IfOk x (λ r. r ≡ apply_reply upto (version_reached steps v upto f))) (sym is) (sym h)
told_due {E} steps v upto f (Stopped V) result h is = subst (λ (x : Result Reply E). IfOk x (λ r. r ≡ apply_reply upto (version_reached steps v upto f))) (sym is) (sym h)
told_due steps v upto f (OutOfMemory V) result h is = no_reply _ result is

pub told_version : {E : Type 0} (before now : ℕ) (applied : Applied) (result : Result Reply E) → now ≡ version_left applied → Told applied result → IfOk result (λ r. now ≡ version_by before r)
told_version {E} before now (Done V) result left is = subst (λ (x : Result Reply E). IfOk x (λ r. now ≡ version_by before r)) (sym is) left
told_version {E} before now (Stopped V) result left is = subst (λ (x : Result Reply E). IfOk x (λ r. now ≡ version_by before r)) (sym is) left
told_version before now (OutOfMemory V) result left is = no_reply _ result is

-- ---- the database behind a call

-- a new one
pub new_keeps : (steps : List (List Write)) (database : Database) (begun : Store) (link : DriverLink) → database.version ≡ 0 → Rests link database.pool.pool → begun ≡ new_store
    → database.store ≡ connected (begun.given + 1) begun → link.side ≡ new_link (begun.given + 1) → Keeps steps 0 database
unfolding all_changed
new_keeps steps database begun link told rests new store side = record {
  told = told;
  within = omega arith;
  link = link;
  rests = rests;
  number = begun.given + 1;
  at = record {
    rows = empty;
    rests = record {
      sees = ap (λ (s : Store). s.rows) store ∙ ap (λ (s : Store). s.rows) new;
      alone = ap (λ (s : Store). s.open_links) store ∙ ap (λ (s : Store). s.open_links) new;
      rests = side;
    };
    holds = record { tells = inr (refl, get-empty int_cmp (negsuc 0)); others = λ key not. refl };
  };
}

-- one on which steps were applied
pub apply_keeps : (steps : List (List Write)) (old new : Database) (upto f : ℕ) (applied : Applied) (store : Store) (raw raw' : DriverLink) → (k : Keeps steps old.version old) → upto ≤ length steps
    → store ≡ old.store → raw ≡ k.link
    → ((n v : ℕ) → IsAtVersion steps n v store raw.side → v ≤ length steps → Applies steps n v upto f applied new.store raw'.side)
    → Rests raw' new.pool.pool → new.version ≡ version_left applied
    → Keeps steps new.version new × AppliesAs steps old.version upto f applied
apply_keeps steps old new upto f applied store raw raw' k inside out same applies rests told =
    let at : IsAtVersion steps k.number old.version store raw.side =
    subst (λ (s : Store). IsAtVersion steps k.number old.version s raw.side) (sym out) (subst (λ (l : DriverLink). IsAtVersion steps k.number old.version old.store l.side) (sym same) k.at) in
    let did : Applies steps k.number old.version upto f applied new.store raw'.side = applies k.number old.version at k.within in (
      record {
        told = refl;
        within = omega (arith, told, applied_within steps old.version upto f applied inside k.within did.answers);
        link = raw';
        rests = rests;
        number = k.number;
        at = subst (λ v. IsAtVersion steps k.number v new.store raw'.side) (sym told) did.at;
      },
      did.answers,
    )

-- one that was read
pub get_keeps : (steps : List (List Write)) (v : ℕ) (old new : Database) (raw : DriverLink) → (k : Keeps steps v old) → raw.side ≡ k.link.side → Rests raw new.pool.pool → new.store ≡ old.store → new.version ≡ old.version
    → Keeps steps v new
get_keeps steps v old new raw k same rests store told = record {
  told = told ∙ k.told;
  within = k.within;
  link = raw;
  rests = rests;
  number = k.number;
  at = subst (λ (s : Store). IsAtVersion steps k.number v s raw.side) (sym store) (subst (λ (l : Link). IsAtVersion steps k.number v old.store l) (sym same) k.at);
}

-- what its connection reads
pub get_found : (steps : List (List Write)) (v key : ℕ) (database : Database) (side : Link) → (k : Keeps steps v database) → side ≡ k.link.side → sees side.own database.store.rows (pos key) ≡ get (rows_of steps v) (pos key)
get_found steps v key database side k same =
    ap (λ (l : Link). sees l.own database.store.rows (pos key)) (same ∙ k.at.rests.rests)
    ∙ ap (λ (o : Option (Option ℤ)). seen o (get database.store.rows (pos key))) (get-empty {X = Option ℤ} int_cmp (pos key))
    ∙ ap (λ (r : Rows). get r (pos key)) k.at.rests.sees
    ∙ k.at.holds.others (pos key) refl
