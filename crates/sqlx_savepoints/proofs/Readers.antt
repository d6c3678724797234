-- What readers see in the store of what stands, and the law that brackets are nested levels.
use Rattle.std.proofs.Common.{◌≡◌, ℕ, ◌==◌, ◌≤◌, ℤ, int_eq, int_cmp, true, false, cond, ◌&&◌, ◌||◌, Option, List, [], ◌∷◌, length, refl, sym, ap, ◌∙◌, subst, inl, inr, arith}
use Rattle.std.proofs.lemmas.Bool.Decides.{eqb_tells}
use Rattle.std.specs.FinMap.{empty, get, get-empty}
use Rattle.sqlx_savepoints.specs.Rows.{Rows, Writes, written, sees, seen}
use Rattle.sqlx_savepoints.specs.NestedLevels.{Nested, current}
use Rattle.sqlx_savepoints.specs.Levels.{begins, nested_step}
use Rattle.sqlx_savepoints.specs.Levels as levels
use Rattle.sqlx_savepoints.proofs.Laid.{get-written, sees-insert}
use Rattle.sqlx_savepoints.specs.Changes.{Change, opens, writes, commits, rolls_back, leaves, History}
use Rattle.sqlx_savepoints.specs.Brackets.{value}
use Rattle.sqlx_savepoints.specs.Standing.{Standing, opened, wrote, is_zero, depth_of, value_of, standing}
use Rattle.sqlx_savepoints.specs.Stores.{Store, nested_at, changed, store_after, IsAccepted, AreAccepted}
use Rattle.sqlx_savepoints.specs.Laws.{BracketsAreLevels}
use Rattle.sqlx_savepoints.proofs.Tells.{tells}
use Rattle.sqlx_savepoints.proofs.StoreOf.{store_of, IsQuiet, depth_store_of, after_quiet, positive, nothing, MayCome, change_over}

abbrev seen_in : List Writes → Rows → ℤ → Option ℤ
seen_in all rows key = sees (current all) rows key

sees_rows : (rows : Rows) (key : ℤ) → sees empty rows key ≡ get rows key
sees_rows rows key = ap (λ o. seen o (get rows key)) (get-empty {X = Option ℤ} int_cmp key)

-- the writer sees its write
put_seen : (rows : Rows) (all : List Writes) (k : ℤ) (v : Option ℤ) (key : ℤ) → seen_in (nested_step (levels.writes k v) (record { rows = rows; levels = all })).levels (nested_step (levels.writes k v) (record { rows = rows; levels = all })).rows key ≡ cond (int_eq key k) v (seen_in all rows key)
put_seen rows [] k v key = sees_rows (written k v rows) key ∙ get-written k v rows key ∙ ap (cond (int_eq key k) v) (sym (sees_rows rows key))
put_seen rows (own ∷ outer) k v key = sees-insert own k v rows key

-- others see it where the writer has no level
put_outside : (rows : Rows) (all : List Writes) (k : ℤ) (v : Option ℤ) (key : ℤ) → length all ≡ 0 → sees empty (nested_step (levels.writes k v) (record { rows = rows; levels = all })).rows key ≡ cond (int_eq key k) v (sees empty rows key)
put_outside rows [] k v key none = put_seen rows [] k v key
put_outside rows (own ∷ outer) k v key none = absurd (omega arith)

-- else not
put_inside : (rows : Rows) (all : List Writes) (k : ℤ) (v : Option ℤ) → 1 ≤ length all → (nested_step (levels.writes k v) (record { rows = rows; levels = all })).rows ≡ rows
put_inside rows [] k v one = absurd (omega arith)
put_inside rows (own ∷ outer) k v one = refl

no_own : (all : List Writes) → length all ≡ 0 → current all ≡ empty
no_own [] none = refl
no_own (own ∷ outer) none = absurd (omega arith)

reads : (things : List Standing) → IsQuiet things → (reader : ℕ) (key : ℤ) → seen_in ((store_of things).levels reader) (store_of things).rows key ≡ value_of reader key things
reads [] quiet reader key = sees_rows empty key ∙ get-empty int_cmp key
reads (opened d ∷ before) quiet reader key = elim (eqb_tells reader d) [
  | inl is ↦
      let s : Store = store_of before in
      ap (λ b. seen_in (cond b (current (s.levels d) ∷ s.levels d) (s.levels reader)) s.rows key) is.0
      ∙ ap (λ x. seen_in (s.levels x) s.rows key) (sym is.1) ∙ reads before quiet reader key
  | inr is ↦
      let s : Store = store_of before in
      ap (λ b. seen_in (cond b (current (s.levels d) ∷ s.levels d) (s.levels reader)) s.rows key) is.0 ∙ reads before quiet reader key
]
reads (wrote d k v ∷ before) quiet reader key =
    let s : Store = store_of before in
    let put : Nested = nested_step (levels.writes k v) (nested_at d s) in
    elim (eqb_tells reader d) [
      | inl is ↦
          ap (λ b. seen_in (cond b put.levels (s.levels reader)) put.rows key) is.0
          ∙ put_seen s.rows (s.levels d) k v key
          ∙ ap (cond (int_eq key k) v) (ap (λ x. seen_in (s.levels x) s.rows key) (sym is.1) ∙ reads before quiet.1 reader key)
          ∙ sym (ap (λ b. cond ((b || is_zero (depth_of d before)) && int_eq key k) v (value_of reader key before)) is.0)
      | inr is ↦
          let mine : current (s.levels reader) ≡ empty = no_own (s.levels reader) (depth_store_of before reader ∙ quiet.0 reader is.0) in
          ap (λ b. seen_in (cond b put.levels (s.levels reader)) put.rows key) is.0
          ∙ elim (is_zero (depth_of d before)) as (λ z. is_zero (depth_of d before) ≡ z → seen_in (s.levels reader) put.rows key ≡ cond (z && int_eq key k) v (value_of reader key before)) [
            | true ↦ λ z.
                ap (λ own. sees own put.rows key) mine
                ∙ put_outside s.rows (s.levels d) k v key (depth_store_of before d ∙ nothing (depth_of d before) z)
                ∙ ap (cond (int_eq key k) v) (ap (λ own. sees own s.rows key) (sym mine) ∙ reads before quiet.1 reader key)
            | false ↦ λ z.
                ap (λ r. seen_in (s.levels reader) r key) (put_inside s.rows (s.levels d) k v (subst (λ n. 1 ≤ n) (sym (depth_store_of before d)) (positive (depth_of d before) z)))
                ∙ reads before quiet.1 reader key
          ] refl
          ∙ sym (ap (λ b. cond ((b || is_zero (depth_of d before)) && int_eq key k) v (value_of reader key before)) is.0)
    ]

-- what may come by brackets may come by what stands
may_come : (past : History) (change : Change) → IsAccepted past change → MayCome (standing past) change
may_come past (opens c) accepted = tt
may_come past (writes c key value) accepted = tt
may_come past (commits c) accepted = subst (λ n. 1 ≤ n) ((tells past).0 c) accepted
may_come past (rolls_back c) accepted = subst (λ n. 1 ≤ n) ((tells past).0 c) accepted
may_come past (leaves c) accepted = tt

alone : (past : History) (change : Change) → IsAccepted past change → (c : ℕ) (key : ℤ) (value : Option ℤ) → change ≡ writes c key value → (other : ℕ) → (other == c) ≡ false → depth_of other (standing past) ≡ 0
alone past change accepted c key value is other apart = let free : IsAccepted past (writes c key value) = subst (IsAccepted past) is accepted in sym ((tells past).0 other) ∙ free other apart

pub standing_quiet : (history : History) → AreAccepted history → IsQuiet (standing history)
standing_quiet [] accepted = tt
standing_quiet (change ∷ past) accepted = after_quiet (standing past) change (standing_quiet past accepted.1) (alone past change accepted.0)

pub store_is : (history : History) → AreAccepted history → store_after history ≡ store_of (standing history)
store_is [] accepted = refl
store_is (change ∷ past) accepted =
    ap (λ s. changed s change) (store_is past accepted.1)
    ∙ change_over (standing past) change (standing_quiet past accepted.1) (may_come past change accepted.0)

pub levels_read_alike : BracketsAreLevels
levels_read_alike history accepted = record {
  depths = λ c. ap (λ s. length (s.levels c)) (store_is history accepted) ∙ depth_store_of (standing history) c ∙ sym ((tells history).0 c);
  values = λ reader key. ap (λ s. seen_in (s.levels reader) s.rows key) (store_is history accepted) ∙ reads (standing history) (standing_quiet history accepted) reader key ∙ sym ((tells history).1 reader key);
}
