-- A change that rolls brackets back at the end undoes just the writes that stand in an open one which it reaches.
use Rattle.std.proofs.Common.{◌≡◌, ℕ, suc, ◌==◌, ℤ, Bool, true, false, not, cond, ◌&&◌, ◌||◌, Option, List, [], ◌∷◌, ◌++◌, refl, sym, ap, ◌∙◌, subst, inl, inr, eq-eqb}
use Rattle.std.proofs.lemmas.Bool.Decides.{eqb_tells}
use Rattle.std.specs.List.{list_any}
use Rattle.sqlx_savepoints.specs.Changes.{Change, opens, writes, commits, rolls_back, leaves, connection_of, History}
use Rattle.sqlx_savepoints.specs.Brackets.{Ending, open_around, committed, rolled_back, turned, ended_by, ending_after, ending, is_open, is_rolled_back, endings_around}
use Rattle.sqlx_savepoints.specs.Standing.{Standing, opened, wrote, is_zero, depth_of}
use Rattle.sqlx_savepoints.proofs.Kept.{kept, is_undone, opened_in, Ties, ties_own, opened_in-other, opened_in-none, ending-snoc, ended_by-own, done_stays}

-- ---- a bracket that is open at the end was open before
ending_after-append : (c : ℕ) (e : Ending) (between rest : List Change) → ending_after c e (between ++ rest) ≡ ending_after c (ending_after c e between) rest
ending_after-append c e [] rest = refl
ending_after-append c e (change ∷ between) rest = ending_after-append c (ended_by c e change) between rest

was_open : (c : ℕ) (e : Ending) (rest : List Change) → is_open (ending_after c e rest) ≡ true → is_open e ≡ true
was_open c (open_around n) rest still = refl
was_open c committed rest still = absurd (let e : false ≡ true = ap is_open (sym (done_stays c committed refl rest)) ∙ still in cc)
was_open c rolled_back rest still = absurd (let e : false ≡ true = ap is_open (sym (done_stays c rolled_back refl rest)) ∙ still in cc)

pub open_between : (c : ℕ) (between rest : List Change) → is_open (ending c (between ++ rest)) ≡ true → is_open (ending c between) ≡ true
open_between c between rest still = was_open c (ending c between) rest (ap is_open (sym (ending_after-append c (open_around 0) between rest)) ∙ still)

-- whether the connection has an open bracket here
abbrev pub has_open : ℕ → List Standing → Bool
has_open c things = not (is_zero (depth_of c things))

-- a change that rolls back an open bracket of its connection where the number of those inside it passes the test, and no other
pub record RollsBack (change : Change) (c : ℕ) (reached : ℕ → Bool) : Type 0 where
  pub own : (connection_of change == c) ≡ true
  pub rolls : (n : ℕ) → is_rolled_back (turned (open_around n) change) ≡ reached n
  pub fewer : (n : ℕ) → reached n ≡ false → reached (suc n) ≡ false

-- ---- truth values
ors : (a b k : Bool) → a || (b || k) ≡ (a || b) || k
ors true b k = refl
ors false b k = refl

reaches : (h more a k : Bool) → (h ≡ false → more ≡ false) → h || (a || (more && k)) ≡ a || (h && true)
reaches true more true k fewer = refl
reaches true more false k fewer = refl
reaches false more true k fewer = refl
reaches false more false k fewer = ap (λ m. m && k) (fewer refl)

-- the test of all that is around, one bracket more or not
pub any_step : (c : ℕ) (b : Bool) (e : Ending) (more : List Ending) → list_any is_rolled_back (cond b (e ∷ more) more) ≡ (b && is_rolled_back e) || list_any is_rolled_back more
any_step c true e more = refl
any_step c false e more = refl

-- the depth of what is kept, one bracket more or not
pub depth_step : (c : ℕ) (b : Bool) (things : List Standing) → depth_of c (cond b (opened c ∷ things) things) ≡ cond b (suc (depth_of c things)) (depth_of c things)
depth_step c true things = ap (λ t. cond t (suc (depth_of c things)) (depth_of c things)) (eq-eqb c c refl)
depth_step c false things = refl

pub depth_other : (c d : ℕ) (b : Bool) (things : List Standing) → (d == c) ≡ false → depth_of c (cond b (opened d ∷ things) things) ≡ depth_of c things
depth_other c d true things other = ap (λ t. cond t (suc (depth_of c things)) (depth_of c things)) other
depth_other c d false things other = refl

pub depth_write : (c d : ℕ) (key : ℤ) (value : Option ℤ) (b : Bool) (things : List Standing) → depth_of c (cond b things (wrote d key value ∷ things)) ≡ depth_of c things
depth_write c d key value true things = refl
depth_write c d key value false things = refl

-- at an opening of its own
own_step : (reached : ℕ → Bool) (change : Change) (c : ℕ) → RollsBack change c reached → (e : Ending) (n with_it depth : ℕ) (b : Bool) (a x : Bool) → Ties e with_it n → (is_open e ≡ true → b ≡ true) → x ≡ a || (reached with_it && not (is_zero depth)) → (b && is_rolled_back (turned e change)) || x ≡ ((b && is_rolled_back e) || a) || (reached n && not (is_zero (cond (is_open e) (suc depth) depth)))
own_step reached change c r (open_around m) n with_it depth b a x t still is =
    rw (still refl, r.rolls m, is, t.0, t.1) (reaches (reached m) (reached (suc m)) a (not (is_zero depth)) (r.fewer m))
own_step reached change c r committed n with_it depth b a x t still is =
    rw (is, t) (ors (b && false) a (reached n && not (is_zero depth)))
own_step reached change c r rolled_back n with_it depth b a x t still is =
    rw (is, t) (ors (b && true) a (reached n && not (is_zero depth)))

abbrev pub UndoneBy : Change → ℕ → (ℕ → Bool) → List Change → List Change → History → Type 0
UndoneBy change c reached between rest past =
    is_undone c between ((between ++ rest) ++ change ∷ []) past
    ≡ is_undone c between (between ++ rest) past || (reached (opened_in c (between ++ rest)) && has_open c (kept (between ++ rest) past))

none_there : (h : Bool) → false ≡ false || (h && false)
none_there true = refl
none_there false = refl

pub undone_by : (change : Change) (c : ℕ) (reached : ℕ → Bool) → RollsBack change c reached → (between rest : List Change) (past : History) → UndoneBy change c reached between rest past
undone_by change c reached r between rest [] = none_there (reached (opened_in c (between ++ rest)))
undone_by change c reached r between rest (opens d ∷ past) =
    let others = undone_by change c reached r (opens d ∷ between) rest past in
    elim (eqb_tells d c) [
      | inl same ↦ subst (λ x. UndoneBy change c reached (opens x ∷ between) rest past → UndoneBy change c reached between rest (opens x ∷ past)) (sym same.1)
          (λ others.
          let since : List Change = between ++ rest in
          let around : Bool = list_any is_rolled_back (cond (is_open (ending c between)) (ending c since ∷ endings_around c (opens c ∷ between) (opens c ∷ since) past) (endings_around c (opens c ∷ between) (opens c ∷ since) past)) in
          rw (eq-eqb c c refl)
          (any_step c (is_open (ending c between)) (ending c (since ++ change ∷ [])) (endings_around c (opens c ∷ between) (opens c ∷ (since ++ change ∷ [])) past)
          ∙ ap (λ e. (is_open (ending c between) && is_rolled_back e) || is_undone c (opens c ∷ between) (opens c ∷ (since ++ change ∷ [])) past) (ending-snoc c (open_around 0) since change ∙ ended_by-own c (ending c since) change r.own)
          ∙ own_step reached change c r (ending c since) (opened_in c since) (opened_in c (opens c ∷ since)) (depth_of c (kept (opens c ∷ since) past)) (is_open (ending c between)) (is_undone c (opens c ∷ between) (opens c ∷ since) past) _ (ties_own c since) (open_between c between rest) others
          ∙ ap (λ a. a || (reached (opened_in c since) && not (is_zero (cond (is_open (ending c since)) (suc (depth_of c (kept (opens c ∷ since) past))) (depth_of c (kept (opens c ∷ since) past)))))) (sym (any_step c (is_open (ending c between)) (ending c since) (endings_around c (opens c ∷ between) (opens c ∷ since) past)))
          ∙ ap (λ n. around || (reached (opened_in c since) && not (is_zero n))) (sym (depth_step c (is_open (ending c since)) (kept (opens c ∷ since) past))))) others
      | inr other ↦
          rw (other.0) (others
          ∙ ap (λ n. is_undone c (opens d ∷ between) (opens d ∷ (between ++ rest)) past || (reached n && has_open c (kept (opens d ∷ (between ++ rest)) past))) (opened_in-other c d (between ++ rest) other.0)
          ∙ ap (λ n. is_undone c (opens d ∷ between) (opens d ∷ (between ++ rest)) past || (reached (opened_in c (between ++ rest)) && not (is_zero n))) (sym (depth_other c d (is_open (ending d (between ++ rest))) (kept (opens d ∷ (between ++ rest)) past) other.0)))
    ]
undone_by change c reached r between rest (writes d key value ∷ past) =
    undone_by change c reached r (writes d key value ∷ between) rest past
    ∙ ap (λ n. is_undone c (writes d key value ∷ between) (writes d key value ∷ (between ++ rest)) past || (reached n && has_open c (kept (writes d key value ∷ (between ++ rest)) past))) (opened_in-none c d (between ++ rest))
    ∙ ap (λ n. is_undone c (writes d key value ∷ between) (writes d key value ∷ (between ++ rest)) past || (reached (opened_in c (between ++ rest)) && not (is_zero n))) (sym (depth_write c d key value (is_undone d [] (writes d key value ∷ (between ++ rest)) past) (kept (writes d key value ∷ (between ++ rest)) past)))
undone_by change c reached r between rest (commits d ∷ past) =
    undone_by change c reached r (commits d ∷ between) rest past
    ∙ ap (λ n. is_undone c (commits d ∷ between) (commits d ∷ (between ++ rest)) past || (reached n && has_open c (kept (commits d ∷ (between ++ rest)) past))) (opened_in-none c d (between ++ rest))
undone_by change c reached r between rest (rolls_back d ∷ past) =
    undone_by change c reached r (rolls_back d ∷ between) rest past
    ∙ ap (λ n. is_undone c (rolls_back d ∷ between) (rolls_back d ∷ (between ++ rest)) past || (reached n && has_open c (kept (rolls_back d ∷ (between ++ rest)) past))) (opened_in-none c d (between ++ rest))
undone_by change c reached r between rest (leaves d ∷ past) =
    undone_by change c reached r (leaves d ∷ between) rest past
    ∙ ap (λ n. is_undone c (leaves d ∷ between) (leaves d ∷ (between ++ rest)) past || (reached n && has_open c (kept (leaves d ∷ (between ++ rest)) past))) (opened_in-none c d (between ++ rest))
