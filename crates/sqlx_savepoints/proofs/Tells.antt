-- What stands is what is kept of a whole history, and tells its depths and values.
use Rattle.std.proofs.Common.{◌≡◌, ℕ, suc, ◌==◌, ℤ, int_eq, Bool, true, false, not, cond, ◌&&◌, ◌||◌, Option, List, [], ◌∷◌, ◌++◌, refl, sym, ap, ◌∙◌, subst, inl, inr, eq-eqb}
use Rattle.std.proofs.lemmas.Bool.Decides.{eqb_tells}
use Rattle.std.specs.List.{list_any, list_all}
use Rattle.sqlx_savepoints.specs.Changes.{Change, opens, writes, commits, rolls_back, leaves, History}
use Rattle.sqlx_savepoints.specs.Brackets.{Ending, open_around, committed, rolled_back, ending, is_open, is_rolled_back, is_opening, endings_around, sees_through, value_before, value, depth_before, depth}
use Rattle.sqlx_savepoints.specs.Standing.{Standing, opened, wrote, is_zero, depth_of, seen_by, value_of, after, standing}
use Rattle.sqlx_savepoints.specs.Laws.{StandingTells}
use Rattle.sqlx_savepoints.proofs.Kept.{kept, is_undone, undone_kept}
use Rattle.sqlx_savepoints.proofs.Struck.{kept-opens, kept-writes, kept-commits, writes_quiet}
use Rattle.sqlx_savepoints.proofs.Undone.{open_between, any_step, depth_step, depth_other, depth_write}
use Rattle.sqlx_savepoints.proofs.CutAway.{kept-rolls_back, kept-leaves}

-- when nothing came later, no bracket around a write was rolled back
none_undone : (c : ℕ) (since : List Change) (past : History) → is_undone c since since past ≡ false
none_undone c since [] = refl
none_undone c since (change ∷ past) =
    any_step c (is_opening c change && is_open (ending c since)) (ending c since) (endings_around c (change ∷ since) (change ∷ since) past)
    ∙ ap (λ a. ((is_opening c change && is_open (ending c since)) && is_rolled_back (ending c since)) || a) (none_undone c (change ∷ since) past)
    ∙ elim (ending c since) as (λ e. ((is_opening c change && is_open e) && is_rolled_back e) || false ≡ false) [
      | open_around n ↦ elim (is_opening c change) as (λ o. ((o && true) && false) || false ≡ false) [ true ↦ refl | false ↦ refl ]
      | committed ↦ elim (is_opening c change) as (λ o. ((o && false) && false) || false ≡ false) [ true ↦ refl | false ↦ refl ]
      | rolled_back ↦ elim (is_opening c change) as (λ o. ((o && false) && true) || false ≡ false) [ true ↦ refl | false ↦ refl ]
    ]

-- nor when the write itself is all that came since
undone_itself : (c : ℕ) (key : ℤ) (value : Option ℤ) (past : History) → is_undone c [] (writes c key value ∷ []) past ≡ false
undone_itself c key value past = undone_kept (writes c key value) c (λ e. (writes_quiet c key value c e).1) [] [] past ∙ none_undone c [] past

pub kept_is_standing : (history : History) → kept [] history ≡ standing history
kept_is_standing [] = refl
kept_is_standing (opens c ∷ past) = ap (λ things. opened c ∷ things) (kept-opens c past ∙ kept_is_standing past)
kept_is_standing (writes c key value ∷ past) = rw (undone_itself c key value past) (ap (λ things. wrote c key value ∷ things) (kept-writes c key value past ∙ kept_is_standing past))
kept_is_standing (commits c ∷ past) = kept-commits c [] past ∙ ap (λ things. after things (commits c)) (kept_is_standing past)
kept_is_standing (rolls_back c ∷ past) = kept-rolls_back c [] past ∙ ap (λ things. after things (rolls_back c)) (kept_is_standing past)
kept_is_standing (leaves c ∷ past) = kept-leaves c [] past ∙ ap (λ things. after things (leaves c)) (kept_is_standing past)

-- ---- depths
abbrev DepthKept : ℕ → List Change → History → Type 0
DepthKept c later past = depth_before c later past ≡ depth_of c (kept later past)

depth_kept : (c : ℕ) (later : List Change) (past : History) → DepthKept c later past
depth_kept c later [] = refl
depth_kept c later (opens d ∷ past) =
    let rest = depth_kept c (opens d ∷ later) past in
    elim (eqb_tells d c) [
      | inl same ↦ subst (λ x. DepthKept c (opens x ∷ later) past → DepthKept c later (opens x ∷ past)) (sym same.1)
          (λ rest. rw (eq-eqb c c refl, rest) (sym (depth_step c (is_open (ending c later)) (kept (opens c ∷ later) past)))) rest
      | inr other ↦ rw (other.0, rest) (sym (depth_other c d (is_open (ending d later)) (kept (opens d ∷ later) past) other.0))
    ]
depth_kept c later (writes d key value ∷ past) = depth_kept c (writes d key value ∷ later) past ∙ sym (depth_write c d key value (is_undone d [] (writes d key value ∷ later) past) (kept (writes d key value ∷ later) past))
depth_kept c later (commits d ∷ past) = depth_kept c (commits d ∷ later) past
depth_kept c later (rolls_back d ∷ past) = depth_kept c (rolls_back d ∷ later) past
depth_kept c later (leaves d ∷ past) = depth_kept c (leaves d ∷ later) past

-- ---- which writes survive
all_step : (reader c : ℕ) (b : Bool) (e : Ending) (more : List Ending) → list_all (sees_through reader c) (cond b (e ∷ more) more) ≡ cond b (sees_through reader c e && list_all (sees_through reader c) more) (list_all (sees_through reader c) more)
all_step reader c true e more = refl
all_step reader c false e more = refl

own_too : (q a z : Bool) → q && (not a && (q || z)) ≡ not a && (q || false)
own_too true true z = refl
own_too true false z = refl
own_too false true z = refl
own_too false false z = refl

-- at an opening of its own
seen_step : (reader c : ℕ) (e : Ending) (depth : ℕ) (b a x : Bool) → (is_open e ≡ true → b ≡ true) → x ≡ not a && (reader == c || is_zero depth) → cond b (sees_through reader c e && x) x ≡ not ((b && is_rolled_back e) || a) && (reader == c || is_zero (cond (is_open e) (suc depth) depth))
seen_step reader c (open_around n) depth b a x still is = rw (still refl, is) (own_too (reader == c) a (is_zero depth))
seen_step reader c committed depth true a x still is = is
seen_step reader c committed depth false a x still is = is
seen_step reader c rolled_back depth true a x still is = refl
seen_step reader c rolled_back depth false a x still is = is

abbrev SeenKept : ℕ → ℕ → List Change → List Change → History → Type 0
SeenKept reader c between rest past = list_all (sees_through reader c) (endings_around c between (between ++ rest) past) ≡ not (is_undone c between (between ++ rest) past) && seen_by reader c (kept (between ++ rest) past)

seen_kept : (reader c : ℕ) (between rest : List Change) (past : History) → SeenKept reader c between rest past
seen_kept reader c between rest [] = elim (reader == c) as (λ q. true ≡ true && (q || true)) [ true ↦ refl | false ↦ refl ]
seen_kept reader c between rest (opens d ∷ past) =
    let others = seen_kept reader c (opens d ∷ between) rest past in
    elim (eqb_tells d c) [
      | inl same ↦ subst (λ x. SeenKept reader c (opens x ∷ between) rest past → SeenKept reader c between rest (opens x ∷ past)) (sym same.1)
          (λ others.
          let since : List Change = between ++ rest in
          let more : List Ending = endings_around c (opens c ∷ between) (opens c ∷ since) past in
          let things : List Standing = kept (opens c ∷ since) past in
          rw (eq-eqb c c refl)
          (all_step reader c (is_open (ending c between)) (ending c since) more
          ∙ seen_step reader c (ending c since) (depth_of c things) (is_open (ending c between)) (list_any is_rolled_back more) (list_all (sees_through reader c) more) (open_between c between rest) others
          ∙ ap (λ a. not a && (reader == c || is_zero (cond (is_open (ending c since)) (suc (depth_of c things)) (depth_of c things)))) (sym (any_step c (is_open (ending c between)) (ending c since) more))
          ∙ ap (λ n. not (list_any is_rolled_back (cond (is_open (ending c between)) (ending c since ∷ more) more)) && (reader == c || is_zero n)) (sym (depth_step c (is_open (ending c since)) things)))) others
      | inr other ↦
          rw other.0 (others ∙ ap (λ n. not (is_undone c (opens d ∷ between) (opens d ∷ (between ++ rest)) past) && (reader == c || is_zero n)) (sym (depth_other c d (is_open (ending d (between ++ rest))) (kept (opens d ∷ (between ++ rest)) past) other.0)))
    ]
seen_kept reader c between rest (writes d key value ∷ past) =
    seen_kept reader c (writes d key value ∷ between) rest past
    ∙ ap (λ n. not (is_undone c (writes d key value ∷ between) (writes d key value ∷ (between ++ rest)) past) && (reader == c || is_zero n)) (sym (depth_write c d key value (is_undone d [] (writes d key value ∷ (between ++ rest)) past) (kept (writes d key value ∷ (between ++ rest)) past)))
seen_kept reader c between rest (commits d ∷ past) = seen_kept reader c (commits d ∷ between) rest past
seen_kept reader c between rest (rolls_back d ∷ past) = seen_kept reader c (rolls_back d ∷ between) rest past
seen_kept reader c between rest (leaves d ∷ past) = seen_kept reader c (leaves d ∷ between) rest past

-- ---- values
opened_aside : (reader : ℕ) (key : ℤ) (d : ℕ) (b : Bool) (things : List Standing) → value_of reader key things ≡ value_of reader key (cond b (opened d ∷ things) things)
opened_aside reader key d true things = refl
opened_aside reader key d false things = refl

written_step : (reader : ℕ) (key : ℤ) (d : ℕ) (k : ℤ) (v : Option ℤ) (r : Bool) (things : List Standing) → cond ((not r && seen_by reader d things) && int_eq key k) v (value_of reader key things) ≡ value_of reader key (cond r things (wrote d k v ∷ things))
written_step reader key d k v true things = refl
written_step reader key d k v false things = refl

value_kept : (reader : ℕ) (key : ℤ) (later : List Change) (past : History) → value_before reader key later past ≡ value_of reader key (kept later past)
value_kept reader key later [] = refl
value_kept reader key later (opens d ∷ past) = value_kept reader key (opens d ∷ later) past ∙ opened_aside reader key d (is_open (ending d later)) (kept (opens d ∷ later) past)
value_kept reader key later (writes d k v ∷ past) =
    ap (λ s. cond (s && int_eq key k) v (value_before reader key (writes d k v ∷ later) past)) (seen_kept reader d [] (writes d k v ∷ later) past)
    ∙ ap (cond ((not (is_undone d [] (writes d k v ∷ later) past) && seen_by reader d (kept (writes d k v ∷ later) past)) && int_eq key k) v) (value_kept reader key (writes d k v ∷ later) past)
    ∙ written_step reader key d k v (is_undone d [] (writes d k v ∷ later) past) (kept (writes d k v ∷ later) past)
value_kept reader key later (commits d ∷ past) = value_kept reader key (commits d ∷ later) past
value_kept reader key later (rolls_back d ∷ past) = value_kept reader key (rolls_back d ∷ later) past
value_kept reader key later (leaves d ∷ past) = value_kept reader key (leaves d ∷ later) past

pub tells : StandingTells
tells history = (
  λ c. depth_kept c [] history ∙ ap (depth_of c) (kept_is_standing history),
  λ reader key. value_kept reader key [] history ∙ ap (value_of reader key) (kept_is_standing history),
)
