-- Connections that are opened for the minimum one by one.
use Rattle.std.proofs.Common.{◌≡◌, ℕ, zero, suc, ◌+◌, ◌-◌, ◌≤◌, ◌<◌, ◌&&◌, Bool, true, false, cond, nat_lt, min, List, [], ◌∷◌, ◌++◌, refl, sym, ap, subst, ◌∙◌, append-nil, arith}
use Rattle.std.proofs.lemmas.Bool.{and_parts}
use Rattle.sqlx_pool_marks.specs.declared.mark.Mark.{Mark}
use Rattle.sqlx_pool_marks.specs.declared.mark.Mark.TheVariants.{Opened, Kept}
use Rattle.sqlx_pool_lists.specs.Core.{Core, free, size}
use Rattle.sqlx_pool_marks.specs.View.{view_of, free as free_in}
use Rattle.sqlx_pool_marks.specs.Marks.{next_conn}
use Rattle.sqlx_pool_marks.specs.EventTable.{may_pass, size_at}
use Rattle.sqlx_pool_lists.specs.StandsFor.{StandsFor}
use Rattle.sqlx_pool_core.proofs.Stands.{stands-in}
use Rattle.sqlx_pool_core.proofs.TurnAtMarks.{free-places, waiting-stands, size-stands}
use Rattle.mem_store.specs.Store.{Store, Link}
use Rattle.sqlx_savepoints.specs.Changes.{History}
use Rattle.sqlx_script.specs.declared.pool_line.PoolLine.{PoolLine}
use Rattle.sqlx_play.specs.declared.outside.ScriptOutside.{ScriptOutside}
use Rattle.sqlx_play.specs.stage.Scene.{Scene}
use Rattle.sqlx_play.specs.stage.LinksStand.{LinksStand}
use Rattle.sqlx_script_rules.specs.ScriptMarks.{openings, passes}
use Rattle.sqlx_play.specs.stage.StageStands.{IsSetUp}
use Rattle.sqlx_script_rules.specs.Answer.{opened_for_minimum}
use Rattle.sqlx_play.specs.stage.StageAdvance.{IsAt, StageAdvance}
use Rattle.sqlx_play.specs.events.KeepsMinimum.{core_passes, least, OpensOne, KeepsMinimum}
use Rattle.sqlx_play.proofs.events.StageAdvanceLemmas.{comes-then, comes-nowhere, at-next}

-- ---- openings behind openings

openings-then : (a b n m : ℕ) → openings a n m ++ openings b (n + a) m ≡ openings (a + b) n m
openings-then zero b n m = (λ i. openings b (zero_right i) m) ∙ (λ i. openings (zero_left i) n m)
  where
    zero_right : n + 0 ≡ n
    zero_right = omega arith

    zero_left : b ≡ 0 + b
    zero_left = omega arith
openings-then (suc a) b n m =
    let over : n + suc a ≡ suc n + a = omega arith in
    let more : suc (a + b) ≡ suc a + b = omega arith in
    ap (λ (k : ℕ). Opened n m ∷ Kept n m ∷ (openings a (suc n) m ++ openings b k m)) over
    ∙ ap (λ (l : List Mark). Opened n m ∷ Kept n m ∷ l) (openings-then a b (suc n) m) ∙ ap (λ (k : ℕ). openings k n m) more

-- ---- so far

-- The stage has opened k connections, each where it had too few.
pub record HasOpened (old now : Scene) (m k : ℕ) : Type 0 where
  pub comes : (marks : List Mark) (past : History) → IsAt old marks past → StageAdvance old now marks (openings k (next_conn marks) m) past
  pub passes : core_passes now.core ≡ core_passes old.core
  pub sized : size now.core ≡ size old.core + k
  pub numbered : now.core.next_conn ≡ old.core.next_conn + k
  pub options : now.core.options ≡ old.core.options
  pub few : 1 ≤ k → (core_passes old.core ≡ true) × (size old.core + k ≤ least old.core.options)

pub opened-none : (old : Scene) (m : ℕ) → HasOpened old old m 0
opened-none old m = record {
  comes = λ marks past at. comes-nowhere old marks past at;
  passes = refl;
  sized = omega arith;
  numbered = omega arith;
  options = refl;
  few = λ h. absurd (omega (arith, h));
}

lt_of : (a b : ℕ) → nat_lt a b ≡ true → a < b
lt_of a b e = grind (arith, e)

le_of : (a b : ℕ) → nat_lt a b ≡ false → b ≤ a
le_of a b e = grind (arith, e)

-- one more
pub opened-more : (old mid now : Scene) (m k : ℕ) → HasOpened old mid m k → OpensOne mid now m true → HasOpened old now m (k + 1)
opened-more old mid now m k h o =
    let both = and_parts (core_passes mid.core) (nat_lt (size mid.core) (least mid.core.options)) (sym o.answer) in
    let room : size mid.core < least mid.core.options = lt_of (size mid.core) (least mid.core.options) both.1 in
    let same : least mid.core.options ≡ least old.core.options = ap least h.options in
    record {
      comes = λ marks past at.
          let first = h.comes marks past at in
          let next : next_conn (marks ++ openings k (next_conn marks) m) ≡ next_conn marks + k = sym first.makes.stands.conn_number ∙ h.numbered ∙ ap (λ (n : ℕ). n + k) at.stands.conn_number in
          let second : StageAdvance mid now (marks ++ openings k (next_conn marks) m) (openings 1 (next_conn marks + k) m) past
          = subst (λ (n : ℕ). StageAdvance mid now (marks ++ openings k (next_conn marks) m) (openings 1 n m) past) next (o.comes (marks ++ openings k (next_conn marks) m) past (at-next old mid marks (openings k (next_conn marks) m) past past at first)) in
          subst (λ (l : List Mark). StageAdvance old now marks l past) (openings-then k 1 (next_conn marks) m)
          (comes-then old mid now marks (openings k (next_conn marks) m) (openings 1 (next_conn marks + k) m) past past first second);
      passes = o.passes ∙ h.passes;
      sized = let a = o.sized in let b = h.sized in omega (arith, a, b);
      numbered = let a = o.numbered in let b = h.numbered in omega (arith, a, b);
      options = o.options ∙ h.options;
      few = λ some. (sym h.passes ∙ both.0, (let b = h.sized in omega (arith, room, same, b)));
    }

-- none more
pub opened-last : (old mid now : Scene) (m k : ℕ) → HasOpened old mid m k → OpensOne mid now m false → HasOpened old now m k
opened-last old mid now m k h o = record {
  comes = λ marks past at.
      let first = h.comes marks past at in
      subst (λ (l : List Mark). StageAdvance old now marks l past) (append-nil (openings k (next_conn marks) m))
      (comes-then old mid now marks (openings k (next_conn marks) m) [] past past first (o.comes (marks ++ openings k (next_conn marks) m) past (at-next old mid marks (openings k (next_conn marks) m) past past at first)));
  passes = o.passes ∙ h.passes;
  sized = let a = o.sized in let b = h.sized in omega (arith, a, b);
  numbered = let a = o.numbered in let b = h.numbered in omega (arith, a, b);
  options = o.options ∙ h.options;
  few = h.few;
}

-- ---- by the marks

pub passes-stands : (pool : PoolLine) (core : Core Link) (marks : List Mark) → IsSetUp pool core.options → core.places ≡ 0 → StandsFor core marks → core_passes core ≡ passes pool marks
passes-stands pool core marks set_up none s =
    let free_is : free core ≡ free_in pool.max (view_of marks) = free-places core marks (stands-in core marks s) ∙ (λ i. free_in ((s.permits ∙ set_up.max) i) (view_of marks) - none i) ∙ omega arith in
    λ i. may_pass (s.shut i) (waiting-stands core marks (stands-in core marks s) i) (free_is i)

pub sized-stands : (core : Core Link) (marks : List Mark) → core.places ≡ 0 → StandsFor core marks → size core ≡ size_at 0 marks
sized-stands core marks none s = size-stands core marks (stands-in core marks s) ∙ ap (λ (k : ℕ). size_at k marks) none

-- the count that was opened
abbrev pub count_of : Bool → ℕ → ℕ → ℕ → ℕ
count_of may opens top now = cond may (min opens (top - now)) 0

counted_full : (b : Bool) (opens top now : ℕ) → (1 ≤ opens → (b ≡ true) × (now + opens ≤ top)) → opens ≡ count_of b opens top now
counted_full b zero top now few = elim b as (λ (b : Bool). ◌≡◌ {A = ℕ} 0 (cond b (min 0 (top - now)) 0)) [ true ↦ omega arith | false ↦ refl ]
counted_full b (suc n) top now few =
    let h = few (omega arith) in
    let le = h.1 in
    (omega (arith, le)) ∙ sym (ap (λ (b : Bool). cond b (min (suc n) (top - now)) 0) h.0)

counted_part : (b : Bool) (k opens top now : ℕ) → k ≤ opens → (1 ≤ k → (b ≡ true) × (now + k ≤ top)) → (b && nat_lt (now + k) top) ≡ false → k ≡ count_of b opens top now
counted_part false zero opens top now le few ended = refl
counted_part false (suc k) opens top now le few ended = absurd (let h = (few (omega arith)).0 in cc)
counted_part true zero opens top now le few ended = let h = le_of (now + 0) top ended in omega (arith, h)
counted_part true (suc k) opens top now le few ended =
    let h = le_of (now + suc k) top ended in
    let f = (few (omega arith)).1 in
    omega (arith, h, f, le)

counted-stands : (old : Scene) (marks : List Mark) (past : History) (opens : ℕ) → IsAt old marks past → count_of (core_passes old.core) opens (least old.core.options) (size old.core) ≡ opened_for_minimum old.pool marks opens
counted-stands old marks past opens at =
    λ i. count_of (passes-stands old.pool old.core marks at.set_up at.places at.stands i) opens (min (at.set_up.min i) (at.set_up.max i)) (sized-stands old.core marks at.places at.stands i)

-- all that may be opened were
pub filled-whole : (old now : Scene) (m opens : ℕ) → HasOpened old now m opens → KeepsMinimum old now m opens opens
filled-whole old now m opens h marks past at =
    (counted_full (core_passes old.core) opens (least old.core.options) (size old.core) h.few ∙ counted-stands old marks past opens at, h.comes marks past at)

-- there were enough
pub filled-part : (old mid now : Scene) (m opens k : ℕ) → k ≤ opens → HasOpened old mid m k → OpensOne mid now m false → KeepsMinimum old now m opens k
filled-part old mid now m opens k le h o marks past at =
    let ended : (core_passes old.core && nat_lt (size old.core + k) (least old.core.options)) ≡ false = (λ i. sym h.passes i && nat_lt (sym h.sized i) (least (sym h.options i))) ∙ sym o.answer in
    (counted_part (core_passes old.core) k opens (least old.core.options) (size old.core) le h.few ended ∙ counted-stands old marks past opens at, (opened-last old mid now m k h o).comes marks past at)

-- the letters of a line are no part of it
pub fills-from : (old : Scene) (out : ScriptOutside) (new : Scene) (m opens n : ℕ) → out.store ≡ old.out.store → KeepsMinimum (record old { out = out }) new m opens n → KeepsMinimum old new m opens n
fills-from old out new m opens n same fills marks past at =
    let links : LinksStand old.core out.store old.lent.items past = subst (λ (x : Store). LinksStand old.core x old.lent.items past) (sym same) at.links in
    let filled = fills marks past (record { set_up = at.set_up; places = at.places; stands = at.stands; links = links }) in (
      filled.0,
      record { pool = filled.1.pool; makes = filled.1.makes; options = filled.1.options; places = filled.1.places; tickets = filled.1.tickets; next = filled.1.next; links = filled.1.links },
    )
