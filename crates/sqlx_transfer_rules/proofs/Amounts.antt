-- The amounts that survive are those that stand where every done thing is struck out.
use Rattle.std.proofs.Common.{◌≡◌, ℕ, suc, ◌==◌, ℤ, pos, ◌+ℤ◌, int_eq, Bool, true, false, not, cond, ◌&&◌, ◌||◌, Option, List, [], ◌∷◌, ◌++◌, refl, sym, ap, ◌∙◌, subst, inl, inr, eq-eqb, arith}
use Rattle.std.proofs.lemmas.Int.{ints}
use Rattle.std.proofs.lemmas.Bool.Decides.{eqb_tells}
use Rattle.std.specs.List.{list_any, list_all}
use Rattle.sqlx_savepoints.specs.Changes.{Change, opens, writes, commits, rolls_back, leaves, History}
use Rattle.sqlx_savepoints.specs.Brackets.{Ending, open_around, committed, rolled_back, ending, is_open, is_rolled_back, endings_around, sees_through}
use Rattle.sqlx_savepoints.specs.Standing.{Standing, opened, wrote, is_zero, depth_of, seen_by, standing}
use Rattle.sqlx_savepoints.proofs.Kept.{kept, is_undone}
use Rattle.sqlx_savepoints.proofs.Undone.{open_between, any_step, depth_step, depth_other, depth_write}
use Rattle.sqlx_savepoints.proofs.Tells.{kept_is_standing}
use Rattle.sqlx_transfer_rules.specs.Transfers.{amount_of, sum_before, sum_of}

-- the sum of the amounts of account x that stand for the reader
abbrev pub sum_in : ℕ → ℕ → List Standing → ℤ
sum_in reader x [] = pos 0
sum_in reader x (opened c ∷ before) = sum_in reader x before
sum_in reader x (wrote c key v ∷ before) = cond (seen_by reader c before && int_eq (pos x) key) (amount_of v) (pos 0) +ℤ sum_in reader x before

pub none_plus : (v : ℤ) → pos 0 +ℤ v ≡ v
none_plus v = omega (arith, ints)

-- ---- which amounts survive

all_step : (reader c : ℕ) (b : Bool) (e : Ending) (more : List Ending) → list_all (sees_through reader c) (cond b (e ∷ more) more) ≡ cond b (sees_through reader c e && list_all (sees_through reader c) more) (list_all (sees_through reader c) more)
all_step reader c true e more = refl
all_step reader c false e more = refl

own_too : (q a z : Bool) → q && (not a && (q || z)) ≡ not a && (q || false)
own_too true true z = refl
own_too true false z = refl
own_too false true z = refl
own_too false false z = refl

-- at an opening of its own
seen_step : (reader c : ℕ) (e : Ending) (depth : ℕ) (b a x : Bool) → (is_open e ≡ true → b ≡ true) → x ≡ not a && (reader == c || is_zero depth) → cond b (sees_through reader c e && x) x ≡ not ((b && is_rolled_back e) || a) && (reader == c || is_zero (cond (is_open e) (suc depth) depth))
seen_step reader c (open_around n) depth b a x still is = rw (still refl, is) (own_too (reader == c) a (is_zero depth))
seen_step reader c committed depth true a x still is = is
seen_step reader c committed depth false a x still is = is
seen_step reader c rolled_back depth true a x still is = refl
seen_step reader c rolled_back depth false a x still is = is

abbrev SeenKept : ℕ → ℕ → List Change → List Change → History → Type 0
SeenKept reader c between rest past = list_all (sees_through reader c) (endings_around c between (between ++ rest) past) ≡ not (is_undone c between (between ++ rest) past) && seen_by reader c (kept (between ++ rest) past)

seen_kept : (reader c : ℕ) (between rest : List Change) (past : History) → SeenKept reader c between rest past
seen_kept reader c between rest [] = elim (reader == c) as (λ q. true ≡ true && (q || true)) [ true ↦ refl | false ↦ refl ]
seen_kept reader c between rest (opens d ∷ past) =
    let others = seen_kept reader c (opens d ∷ between) rest past in
    elim (eqb_tells d c) [
      | inl same ↦ subst (λ x. SeenKept reader c (opens x ∷ between) rest past → SeenKept reader c between rest (opens x ∷ past)) (sym same.1)
          (λ others.
          let since : List Change = between ++ rest in
          let more : List Ending = endings_around c (opens c ∷ between) (opens c ∷ since) past in
          let things : List Standing = kept (opens c ∷ since) past in
          rw (eq-eqb c c refl)
          (all_step reader c (is_open (ending c between)) (ending c since) more
          ∙ seen_step reader c (ending c since) (depth_of c things) (is_open (ending c between)) (list_any is_rolled_back more) (list_all (sees_through reader c) more) (open_between c between rest) others
          ∙ ap (λ a. not a && (reader == c || is_zero (cond (is_open (ending c since)) (suc (depth_of c things)) (depth_of c things)))) (sym (any_step c (is_open (ending c between)) (ending c since) more))
          ∙ ap (λ n. not (list_any is_rolled_back (cond (is_open (ending c between)) (ending c since ∷ more) more)) && (reader == c || is_zero n)) (sym (depth_step c (is_open (ending c since)) things)))) others
      | inr other ↦
          rw other.0 (others ∙ ap (λ n. not (is_undone c (opens d ∷ between) (opens d ∷ (between ++ rest)) past) && (reader == c || is_zero n)) (sym (depth_other c d (is_open (ending d (between ++ rest))) (kept (opens d ∷ (between ++ rest)) past) other.0)))
    ]
seen_kept reader c between rest (writes d key value ∷ past) =
    seen_kept reader c (writes d key value ∷ between) rest past
    ∙ ap (λ n. not (is_undone c (writes d key value ∷ between) (writes d key value ∷ (between ++ rest)) past) && (reader == c || is_zero n)) (sym (depth_write c d key value (is_undone d [] (writes d key value ∷ (between ++ rest)) past) (kept (writes d key value ∷ (between ++ rest)) past)))
seen_kept reader c between rest (commits d ∷ past) = seen_kept reader c (commits d ∷ between) rest past
seen_kept reader c between rest (rolls_back d ∷ past) = seen_kept reader c (rolls_back d ∷ between) rest past
seen_kept reader c between rest (leaves d ∷ past) = seen_kept reader c (leaves d ∷ between) rest past

-- ---- sums

opened_aside : (reader x d : ℕ) (b : Bool) (things : List Standing) → sum_in reader x things ≡ sum_in reader x (cond b (opened d ∷ things) things)
opened_aside reader x d true things = refl
opened_aside reader x d false things = refl

written_step : (reader x d : ℕ) (k : ℤ) (v : Option ℤ) (r : Bool) (things : List Standing) → cond ((not r && seen_by reader d things) && int_eq (pos x) k) (amount_of v) (pos 0) +ℤ sum_in reader x things ≡ sum_in reader x (cond r things (wrote d k v ∷ things))
written_step reader x d k v true things = none_plus (sum_in reader x things)
written_step reader x d k v false things = refl

sum_kept : (reader x : ℕ) (later : List Change) (past : History) → sum_before reader x later past ≡ sum_in reader x (kept later past)
sum_kept reader x later [] = refl
sum_kept reader x later (opens d ∷ past) = none_plus (sum_before reader x (opens d ∷ later) past) ∙ sum_kept reader x (opens d ∷ later) past ∙ opened_aside reader x d (is_open (ending d later)) (kept (opens d ∷ later) past)
sum_kept reader x later (writes d k v ∷ past) =
    ap (λ s. cond (s && int_eq (pos x) k) (amount_of v) (pos 0) +ℤ sum_before reader x (writes d k v ∷ later) past) (seen_kept reader d [] (writes d k v ∷ later) past)
    ∙ ap (λ s. cond ((not (is_undone d [] (writes d k v ∷ later) past) && seen_by reader d (kept (writes d k v ∷ later) past)) && int_eq (pos x) k) (amount_of v) (pos 0) +ℤ s) (sum_kept reader x (writes d k v ∷ later) past)
    ∙ written_step reader x d k v (is_undone d [] (writes d k v ∷ later) past) (kept (writes d k v ∷ later) past)
sum_kept reader x later (commits d ∷ past) = none_plus (sum_before reader x (commits d ∷ later) past) ∙ sum_kept reader x (commits d ∷ later) past
sum_kept reader x later (rolls_back d ∷ past) = none_plus (sum_before reader x (rolls_back d ∷ later) past) ∙ sum_kept reader x (rolls_back d ∷ later) past
sum_kept reader x later (leaves d ∷ past) = none_plus (sum_before reader x (leaves d ∷ later) past) ∙ sum_kept reader x (leaves d ∷ later) past

pub sums_stand : (reader x : ℕ) (history : History) → sum_of reader x history ≡ sum_in reader x (standing history)
sums_stand reader x history = sum_kept reader x [] history ∙ ap (sum_in reader x) (kept_is_standing history)
