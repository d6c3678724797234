-- What stands, run as changes of a store, is the store after the whole history.
use Rattle.std.proofs.Common.{◌≡◌, ◌⊎◌, ℕ, zero, suc, ◌==◌, ◌≤◌, ℤ, Bool, true, false, not, cond, ◌&&◌, ◌||◌, Option, List, [], ◌∷◌, length, refl, sym, ap, ◌∙◌, subst, inl, inr, eq-eqb, ne_eqb, arith}
use Rattle.std.proofs.lemmas.Bool.Decides.{eqb_tells}
use Rattle.sqlx_savepoints.specs.Rows.{Writes}
use Rattle.sqlx_savepoints.specs.NestedLevels.{Nested, current}
use Rattle.sqlx_savepoints.specs.Levels.{begins, nested_step}
use Rattle.sqlx_savepoints.specs.Levels as levels
use Rattle.sqlx_savepoints.specs.Changes.{Change, opens, writes, commits, rolls_back, leaves}
use Rattle.sqlx_savepoints.specs.Standing.{Standing, opened, wrote, opens_for, is_of, is_zero, depth_of, struck, cut, cleared, after}
use Rattle.sqlx_savepoints.specs.Stores.{Store, new_store, with_levels, nested_at, on, all_dropped, changed}
use Rattle.sqlx_savepoints.proofs.Swaps.{on-on, on-same, on-alike, on-swap, committed_begun, committed_written, undone_written, dropped_written, dropped_outside}

-- the things that stand, as changes of a new store
abbrev pub store_of : List Standing → Store
store_of [] = new_store
store_of (opened c ∷ before) = changed (store_of before) (opens c)
store_of (wrote c key value ∷ before) = changed (store_of before) (writes c key value)

-- each write stands where no other connection has an open bracket
abbrev pub IsQuiet : List Standing → Type 0
IsQuiet [] = Unit {0}
IsQuiet (opened c ∷ before) = IsQuiet before
IsQuiet (wrote c key value ∷ before) = ((other : ℕ) → (other == c) ≡ false → depth_of other before ≡ 0) × IsQuiet before

-- ---- depths
begun_levels : (b : Bool) (new : Writes) (all : List Writes) (n : ℕ) → length all ≡ n → length (cond b (new ∷ all) all) ≡ cond b (suc n) n
begun_levels true new all n e = ap suc e
begun_levels false new all n e = e

put_length : (n : Nested) (key : ℤ) (value : Option ℤ) → length (nested_step (levels.writes key value) n).levels ≡ length n.levels
put_length n key value = elim n.levels as (λ all. length (nested_step (levels.writes key value) (record { rows = n.rows; levels = all })).levels ≡ length all) [ [] ↦ refl | own ∷ outer ↦ refl ]

written_levels : (b : Bool) (n : Nested) (key : ℤ) (value : Option ℤ) (all : List Writes) → (b ≡ true → n.levels ≡ all) → length (cond b (nested_step (levels.writes key value) n).levels all) ≡ length all
written_levels true n key value all same = put_length n key value ∙ ap length (same refl)
written_levels false n key value all same = refl

pub depth_store_of : (things : List Standing) (c : ℕ) → length ((store_of things).levels c) ≡ depth_of c things
depth_store_of [] c = refl
depth_store_of (opened d ∷ before) c = elim (eqb_tells c d) [
  | inl is ↦ subst (λ x. length (with_levels x (current ((store_of before).levels x) ∷ (store_of before).levels x) (store_of before).levels c) ≡ cond (x == c) (suc (depth_of c before)) (depth_of c before)) is.1
      (rw (eq-eqb c c refl) (ap suc (depth_store_of before c)))
  | inr is ↦ let dc : (d == c) ≡ false = ne_eqb d c (λ e. is.1 (sym e)) in rw (is.0, dc) (depth_store_of before c)
]
depth_store_of (wrote d key value ∷ before) c = elim (eqb_tells c d) [
  | inl is ↦ subst (λ x. length (with_levels x (nested_step (levels.writes key value) (nested_at x (store_of before))).levels (store_of before).levels c) ≡ depth_of c before) is.1
      (rw (eq-eqb c c refl) (put_length (nested_at c (store_of before)) key value ∙ depth_store_of before c))
  | inr is ↦ rw is.0 (depth_store_of before c)
]

-- ---- quiet things stay quiet
-- these things with some struck out
abbrev Thinned : List Standing → List Standing → Type 0
Thinned less [] = less ≡ []
Thinned less (thing ∷ before) = Thinned less before ⊎ ((rest : List Standing) × (less ≡ thing ∷ rest) × Thinned rest before)

thinned-same : (things : List Standing) → Thinned things things
thinned-same [] = refl
thinned-same (thing ∷ before) = inr (before, refl, thinned-same before)

struck_thinned : (c : ℕ) (things : List Standing) → Thinned (struck c things) things
struck_thinned c [] = refl
struck_thinned c (thing ∷ before) = elim (opens_for c thing) as (λ b. Thinned (cond b before (thing ∷ struck c before)) (thing ∷ before)) [
  | true ↦ inl (thinned-same before)
  | false ↦ inr (struck c before, refl, struck_thinned c before)
]

cut_thinned : (c : ℕ) (things : List Standing) → Thinned (cut c things) things
cut_thinned c [] = refl
cut_thinned c (thing ∷ before) = elim (opens_for c thing) as (λ b. Thinned (cond b before (cond (is_of c thing) (cut c before) (thing ∷ cut c before))) (thing ∷ before)) [
  | true ↦ inl (thinned-same before)
  | false ↦ elim (is_of c thing) as (λ b. Thinned (cond b (cut c before) (thing ∷ cut c before)) (thing ∷ before)) [ true ↦ inl (cut_thinned c before) | false ↦ inr (cut c before, refl, cut_thinned c before) ]
]

cleared_thinned : (c : ℕ) (things : List Standing) → Thinned (cleared c things) things
cleared_thinned c [] = refl
cleared_thinned c (thing ∷ before) = elim (opens_for c thing || (is_of c thing && not (is_zero (depth_of c before)))) as (λ b. Thinned (cond b (cleared c before) (thing ∷ cleared c before)) (thing ∷ before)) [
  | true ↦ inl (cleared_thinned c before)
  | false ↦ inr (cleared c before, refl, cleared_thinned c before)
]

none_here : (b : Bool) (n : ℕ) → cond b (suc n) n ≡ 0 → (b ≡ false) × (n ≡ 0)
none_here true n e = absurd (omega arith)
none_here false n e = (refl, e)

thinned_none : (o : ℕ) (less things : List Standing) → Thinned less things → depth_of o things ≡ 0 → depth_of o less ≡ 0
thinned_none o less [] t none = ap (depth_of o) t
thinned_none o less (thing ∷ before) t none =
    let here = none_here (opens_for o thing) (depth_of o before) none in
    elim t [
      | inl t ↦ thinned_none o less before t here.1
      | inr t ↦ ap (depth_of o) t.1 ∙ ap (λ b. cond b (suc (depth_of o t.0)) (depth_of o t.0)) here.0 ∙ thinned_none o t.0 before t.2 here.1
    ]

thinned_quiet : (less things : List Standing) → Thinned less things → IsQuiet things → IsQuiet less
thinned_quiet less [] t quiet = subst IsQuiet (sym t) tt
thinned_quiet less (opened d ∷ before) t quiet = elim t [
  | inl t ↦ thinned_quiet less before t quiet
  | inr t ↦ subst IsQuiet (sym t.1) (thinned_quiet t.0 before t.2 quiet)
]
thinned_quiet less (wrote d key value ∷ before) t quiet = elim t [
  | inl t ↦ thinned_quiet less before t quiet.1
  | inr t ↦ subst IsQuiet (sym t.1) (λ other apart. thinned_none other t.0 before t.2 (quiet.0 other apart), thinned_quiet t.0 before t.2 quiet.1)
]

pub after_quiet : (things : List Standing) (change : Change) → IsQuiet things → ((c : ℕ) (key : ℤ) (value : Option ℤ) → change ≡ writes c key value → (other : ℕ) → (other == c) ≡ false → depth_of other things ≡ 0) → IsQuiet (after things change)
after_quiet things (opens c) quiet alone = quiet
after_quiet things (writes c key value) quiet alone = (alone c key value refl, quiet)
after_quiet things (commits c) quiet alone = thinned_quiet (struck c things) things (struck_thinned c things) quiet
after_quiet things (rolls_back c) quiet alone = elim (is_zero (depth_of c things)) as (λ b. IsQuiet (cond b things (cut c things))) [ true ↦ quiet | false ↦ thinned_quiet (cut c things) things (cut_thinned c things) quiet ]
after_quiet things (leaves c) quiet alone = thinned_quiet (cleared c things) things (cleared_thinned c things) quiet

-- ---- a step that ends brackets, over what stands
swap_begun : (c d : ℕ) (step : Nested → Nested) (s : Store) → (d == c) ≡ false → (d ≡ c → ⊥) → on c step (changed s (opens d)) ≡ changed (on c step s) (opens d)
swap_begun c d step s dc apart = on-swap c d (λ all. current all ∷ all) step s (ne_eqb c d (λ e. apart (sym e))) dc

commits_over : (c : ℕ) (things : List Standing) → IsQuiet things → 1 ≤ depth_of c things → on c (nested_step levels.commits) (store_of things) ≡ store_of (struck c things)
commits_over c [] quiet one = absurd (omega arith)
commits_over c (opened d ∷ before) quiet one = elim (eqb_tells d c) [
  | inl is ↦
      let s : Store = store_of before in
      ap (λ x. on c (nested_step levels.commits) (on x (nested_step begins) s)) is.1
      ∙ on-on c (nested_step begins) (nested_step levels.commits) s ∙ on-same c (λ n. nested_step levels.commits (nested_step begins n)) s (committed_begun (nested_at c s))
      ∙ sym (ap (λ b. store_of (cond b before (opened d ∷ struck c before))) is.0)
  | inr is ↦
      let less : 1 ≤ depth_of c before = subst (λ b. 1 ≤ cond b (suc (depth_of c before)) (depth_of c before)) is.0 one in
      swap_begun c d (nested_step levels.commits) (store_of before) is.0 is.1 ∙ ap (λ s. changed s (opens d)) (commits_over c before quiet less)
      ∙ sym (ap (λ b. store_of (cond b before (opened d ∷ struck c before))) is.0)
]
commits_over c (wrote d key value ∷ before) quiet one = elim (eqb_tells c d) [
  | inl is ↦
      let s : Store = store_of before in
      let filled : 1 ≤ length (s.levels c) = subst (λ n. 1 ≤ n) (sym (depth_store_of before c)) one in
      ap (λ x. on c (nested_step levels.commits) (on x (nested_step (levels.writes key value)) s)) (sym is.1)
      ∙ on-on c (nested_step (levels.writes key value)) (nested_step levels.commits) s
      ∙ on-alike c (λ n. nested_step levels.commits (nested_step (levels.writes key value) n)) (λ n. nested_step (levels.writes key value) (nested_step levels.commits n)) s (committed_written s.rows (s.levels c) key value filled)
      ∙ sym (on-on c (nested_step levels.commits) (nested_step (levels.writes key value)) s)
      ∙ ap (on c (nested_step (levels.writes key value))) (commits_over c before quiet.1 one)
      ∙ ap (λ x. on x (nested_step (levels.writes key value)) (store_of (struck c before))) is.1
  | inr is ↦ absurd (let none = quiet.0 c is.0 in omega arith)
]

rolls_over : (c : ℕ) (things : List Standing) → IsQuiet things → 1 ≤ depth_of c things → on c (nested_step levels.rolls_back) (store_of things) ≡ store_of (cut c things)
rolls_over c [] quiet one = absurd (omega arith)
rolls_over c (opened d ∷ before) quiet one = elim (eqb_tells d c) [
  | inl is ↦
      let s : Store = store_of before in
      ap (λ x. on c (nested_step levels.rolls_back) (on x (nested_step begins) s)) is.1
      ∙ on-on c (nested_step begins) (nested_step levels.rolls_back) s ∙ on-same c (λ n. nested_step levels.rolls_back (nested_step begins n)) s refl
      ∙ sym (ap (λ b. store_of (cond b before (cond b (cut c before) (opened d ∷ cut c before)))) is.0)
  | inr is ↦
      let less : 1 ≤ depth_of c before = subst (λ b. 1 ≤ cond b (suc (depth_of c before)) (depth_of c before)) is.0 one in
      swap_begun c d (nested_step levels.rolls_back) (store_of before) is.0 is.1 ∙ ap (λ s. changed s (opens d)) (rolls_over c before quiet less)
      ∙ sym (ap (λ b. store_of (cond b before (cond b (cut c before) (opened d ∷ cut c before)))) is.0)
]
rolls_over c (wrote d key value ∷ before) quiet one = elim (eqb_tells c d) [
  | inl is ↦
      let s : Store = store_of before in
      let filled : 1 ≤ length (s.levels c) = subst (λ n. 1 ≤ n) (sym (depth_store_of before c)) one in
      let own : (d == c) ≡ true = eq-eqb d c (sym is.1) in
      ap (λ x. on c (nested_step levels.rolls_back) (on x (nested_step (levels.writes key value)) s)) (sym is.1)
      ∙ on-on c (nested_step (levels.writes key value)) (nested_step levels.rolls_back) s
      ∙ on-alike c (λ n. nested_step levels.rolls_back (nested_step (levels.writes key value) n)) (nested_step levels.rolls_back) s (undone_written s.rows (s.levels c) key value filled)
      ∙ rolls_over c before quiet.1 one
      ∙ sym (ap (λ b. store_of (cond b (cut c before) (wrote d key value ∷ cut c before))) own)
  | inr is ↦ absurd (let none = quiet.0 c is.0 in omega arith)
]

pub positive : (n : ℕ) → is_zero n ≡ false → 1 ≤ n
positive zero e = absurd cc
positive (suc n) e = omega arith

pub nothing : (n : ℕ) → is_zero n ≡ true → n ≡ 0
nothing zero e = refl
nothing (suc n) e = absurd cc

leaves_over : (c : ℕ) (things : List Standing) → on c all_dropped (store_of things) ≡ store_of (cleared c things)
leaves_over c [] = on-same c all_dropped new_store refl
leaves_over c (opened d ∷ before) = elim (eqb_tells d c) [
  | inl is ↦
      let s : Store = store_of before in
      ap (λ x. on c all_dropped (on x (nested_step begins) s)) is.1
      ∙ on-on c (nested_step begins) all_dropped s ∙ leaves_over c before
      ∙ sym (ap (λ b. store_of (cond (b || (b && not (is_zero (depth_of c before)))) (cleared c before) (opened d ∷ cleared c before))) is.0)
  | inr is ↦
      swap_begun c d all_dropped (store_of before) is.0 is.1 ∙ ap (λ s. changed s (opens d)) (leaves_over c before)
      ∙ sym (ap (λ b. store_of (cond (b || (b && not (is_zero (depth_of c before)))) (cleared c before) (opened d ∷ cleared c before))) is.0)
]
leaves_over c (wrote d key value ∷ before) = elim (eqb_tells d c) [
  | inl is ↦
      let s : Store = store_of before in
      let begin : on c all_dropped (on d (nested_step (levels.writes key value)) s) ≡ on c (λ n. all_dropped (nested_step (levels.writes key value) n)) s =
      ap (λ x. on c all_dropped (on x (nested_step (levels.writes key value)) s)) is.1 ∙ on-on c (nested_step (levels.writes key value)) all_dropped s in
      let finish = sym (ap (λ b. store_of (cond (b && not (is_zero (depth_of c before))) (cleared c before) (wrote d key value ∷ cleared c before))) is.0) in
      begin ∙ (elim (is_zero (depth_of c before)) as (λ z. is_zero (depth_of c before) ≡ z → on c (λ n. all_dropped (nested_step (levels.writes key value) n)) s ≡ store_of (cond (true && not z) (cleared c before) (wrote d key value ∷ cleared c before))) [
        | true ↦ λ z.
            let outside : length (s.levels c) ≡ 0 = depth_store_of before c ∙ nothing (depth_of c before) z in
            on-alike c (λ n. all_dropped (nested_step (levels.writes key value) n)) (λ n. nested_step (levels.writes key value) (all_dropped n)) s (dropped_outside s.rows (s.levels c) key value outside)
            ∙ sym (on-on c all_dropped (nested_step (levels.writes key value)) s)
            ∙ ap (on c (nested_step (levels.writes key value))) (leaves_over c before)
            ∙ ap (λ x. on x (nested_step (levels.writes key value)) (store_of (cleared c before))) (sym is.1)
        | false ↦ λ z.
            let filled : 1 ≤ length (s.levels c) = subst (λ n. 1 ≤ n) (sym (depth_store_of before c)) (positive (depth_of c before) z) in
            on-alike c (λ n. all_dropped (nested_step (levels.writes key value) n)) all_dropped s (dropped_written s.rows (s.levels c) key value filled) ∙ leaves_over c before
      ]) refl ∙ finish
  | inr is ↦
      sym (on-swap d c (λ all. []) (nested_step (levels.writes key value)) (store_of before) is.0 (ne_eqb c d (λ e. is.1 (sym e))))
      ∙ ap (λ s. changed s (writes d key value)) (leaves_over c before)
      ∙ sym (ap (λ b. store_of (cond (b && not (is_zero (depth_of c before))) (cleared c before) (wrote d key value ∷ cleared c before))) is.0)
]

-- ---- one change over what stands
-- the change may come by what stands
abbrev pub MayCome : List Standing → Change → Type 0
MayCome things (commits c) = 1 ≤ depth_of c things
MayCome things (rolls_back c) = 1 ≤ depth_of c things
MayCome things _ = Unit {0}

pub change_over : (things : List Standing) (change : Change) → IsQuiet things → MayCome things change → changed (store_of things) change ≡ store_of (after things change)
change_over things (opens c) quiet may = refl
change_over things (writes c key value) quiet may = refl
change_over things (commits c) quiet may = commits_over c things quiet may
change_over things (rolls_back c) quiet may =
    rolls_over c things quiet may
    ∙ elim (is_zero (depth_of c things)) as (λ z. is_zero (depth_of c things) ≡ z → store_of (cut c things) ≡ store_of (cond z things (cut c things))) [
      | true ↦ λ z. absurd (let none = nothing (depth_of c things) z in omega arith)
      | false ↦ λ z. refl
    ] refl
change_over things (leaves c) quiet may = leaves_over c things
