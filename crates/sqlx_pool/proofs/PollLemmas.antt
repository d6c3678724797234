-- A poll over the lock, put together from its steps.
use Rattle.std.proofs.Common.{◌≡◌, ◌-◌, arith, ℕ, zero, suc, Bool, true, false, MatchBool, not, ◌&&◌, List, Option, Some, None, IfSome, refl, sym, ap, subst, if◌then◌else◌, ◌∙◌}
use mathlib.Core.List.{IsPrefix}
use Rattle.sqlx_text.specs.declared.Moment.{Moment}
use Rattle.sqlx_text.specs.declared.error.Error.{Error}
use Rattle.sqlx_text.specs.declared.error.Error.TheVariants as error
use Rattle.sqlx_pool_history.specs.Shows.{Steps}
use Rattle.sqlx_pool_history.proofs.Prefixes.{prefix_trans}
use Rattle.sqlx_pool_history.proofs.Showing.{steps_prefix, steps_weaker}
use Rattle.sqlx_pool_lists.specs.declared.options.PoolOptions.{PoolOptions}
use Rattle.sqlx_pool_lists.specs.declared.steps.Idle.{Idle}
use Rattle.sqlx_pool_lists.specs.declared.steps.Lent.{Lent}
use Rattle.sqlx_pool_lists.specs.declared.steps.Start.{Start}
use Rattle.sqlx_pool_lists.specs.declared.steps.Tried.{Tried}
use Rattle.sqlx_pool_core.specs.Calls.{Call}
use Rattle.sqlx_pool_core.specs.Walk.{tried_of}
use Rattle.sqlx_pool_core.specs.declared.idle_check.Opening.{Opening}
use Rattle.sqlx_pool_core.specs.declared.idle_check.Check.TheVariants as check
use Rattle.sqlx_pool_parts.specs.Checks.{Closes, TestsFlat}
use Rattle.sqlx_pool.specs.Calls.{Look, Step}
use Rattle.sqlx_pool.specs.Calls as call
use Rattle.sqlx_pool.specs.PollChain.{Began, Served, Untested, ToldTest, ToldTry, IfTested, BeginsAs, Ends, GoesFrom, LendsUntested, OpensFrom, OpensOne, Tells, TellsTry, Tests, TestsNothing, TestsFrom, TestsOne, TestsTo, TriesOrLacks, alone, next_test, opens_next, begun_stage, stage_by, tested_stage, tried_stage, without_test}
use Rattle.sqlx_pool.specs.Seen.{SeesStep}
use Rattle.sqlx_pool.specs.Stage.{wants_test, wants_connect}
use Rattle.sqlx_pool.specs.declared.acquiring.Polling.{Polling}
use Rattle.sqlx_pool.specs.declared.acquiring.Polling.TheVariants as polling
use Rattle.sqlx_pool.specs.declared.stage.Stage.{Stage}
use Rattle.sqlx_pool.specs.declared.stage.Stage.TheVariants as stage
use Rattle.sqlx_pool.proofs.PollStages.{test_in, connect_in, moment_in, test-asked, connect-asked, moment-asked, without-none}

-- a step of a front that had grown before
pub steps_sooner : {S : Type 0} (old mid new : List S) (goes : S → S → Type 0) → IsPrefix old mid → Steps mid new goes → Steps old new goes
steps_sooner old mid new goes sooner s = (s.0, s.1, prefix_trans old mid s.0 sooner s.2, s.3, s.4)

-- a test that asks nothing of the outside has neither of its switches set
pub asks_nothing : (ping hook is : Bool) → is ≡ (not ping && not hook) → is ≡ true → (ping ≡ false) × (hook ≡ false)
asks_nothing false false is e none = (refl, refl)
asks_nothing true hook is e none = absurd cc
asks_nothing false true is e none = absurd cc

-- a count that isn't 0 is one more than that without one
pub one_more : (n : ℕ) → (n ≡ 0 → ⊥) → n ≡ suc (n - 1)
one_more zero e = absurd (e refl)
one_more (suc n) e = omega arith

-- a step at which a ticket is served at once, where its test asks nothing of the outside
pub served : {C N S : Type 0} (stands : S → Type 0) (goes : Step C N → S → S → Type 0) (name : N) (client ticket : ℕ) (now : Moment) (options : PoolOptions) (old new : List S) (m : Moment) (r : Option (Lent C))
    → TestsNothing options → SeesStep stands old new (goes (call.ServePolled name client ticket now r)) → IfSome r (λ lent. SeesStep stands old new (Tells stands goes name client ticket now options m (Served lent)))
served stands goes name client ticket now options old new m None nothing sees = tt
served stands goes name client ticket now options old new m (Some lent) nothing sees = steps_weaker old new _ _ (λ before after is. (is.0, (is.1.0, (nothing, is.1.1)))) sees

-- the one of two facts that a switch, or a connection to be tested, names
pub by_true : (b : Bool) (P Q : Type 0) → b ≡ true → P → MatchBool b P Q
by_true true P Q e is = is
by_true false P Q e is = absurd cc

pub by_false : (b : Bool) (P Q : Type 0) → b ≡ false → Q → MatchBool b P Q
by_false true P Q e is = absurd cc
by_false false P Q e is = is

by_some : {C : Type 0} (o : Option (Idle C)) (i : Idle C) (P : Idle C → Type 0) (Q : Type 0) → o ≡ Some i → P i → IfTested o P Q
by_some o i P Q e is = subst (λ next. IfTested next P Q) (sym e) is

by_none : {C : Type 0} (o : Option (Idle C)) (P : Idle C → Type 0) (Q : Type 0) → o ≡ None → Q → IfTested o P Q
by_none o P Q e is = subst (λ next. IfTested next P Q) (sym e) is

module _ {C H : Type 0} where
  -- what isn't to be tested or opened isn't so without its share
  none-tested : (s : Stage C H) → wants_test s ≡ false → test_in (alone s) ≡ None
  none-tested (stage.Lent lent held) e = refl
  none-tested (stage.Pending why) e = refl
  none-tested (stage.Failed error) e = refl
  none-tested (stage.Left raw hard error) e = refl
  none-tested (stage.Test i m) e = absurd cc
  none-tested stage.Connect e = refl

  none-opened : (s : Stage C H) → wants_connect s ≡ false → connect_in (alone s) ≡ false
  none-opened (stage.Lent lent held) e = refl
  none-opened (stage.Pending why) e = refl
  none-opened (stage.Failed error) e = refl
  none-opened (stage.Left raw hard error) e = refl
  none-opened (stage.Test i m) e = refl
  none-opened stage.Connect e = absurd cc

module _ {C N S H : Type 0} (stands : S → Type 0) (goes : Step C N → S → S → Type 0) (name : N) (client ticket : ℕ) (now : Moment) (options : PoolOptions) (old mid new : List S) where
  -- a poll that began with an answer of the pool
  pub begins_started : (m : Moment) (answer : Start C) (came : Stage C H) → IsPrefix old mid → alone came ≡ begun_stage m answer
      → SeesStep stands mid new (Tells stands goes name client ticket now options m (Began answer)) → BeginsAs stands goes name client ticket now options old new came
  begins_started m answer came sooner is sees = (m, Began answer, is, steps_sooner old mid new _ sooner sees)

module _ {C N S H : Type 0} (stands : S → Type 0) (goes : Step C N → S → S → Type 0) (name : N) (client ticket : ℕ) (now : Moment) (options : PoolOptions) (old mid begun new : List S) where
  -- one that then lent without a test
  pub begins_tested : (m at : Moment) (answer : Start C) (i : Idle C) (came : Stage C H) → IsPrefix old mid → TestsNothing options
      → SeesStep stands mid begun (Tells stands goes name client ticket now options m (Began answer)) → LendsUntested stands goes name client ticket i at begun new came
      → BeginsAs stands goes name client ticket now options old new came
  begins_tested m at answer i came sooner nothing sees lent =
      (at, Untested i.lent lent.0, lent.1, steps_weaker old new _ _ (λ before after is. (is.0, (is.1.0, (nothing, is.1.1)))) (steps_sooner old begun new _ (prefix_trans old mid begun sooner (steps_prefix mid begun _ sees)) lent.2))

module _ {C O X N S H : Type 0} (does : Call C O → X → X → Type 0) (depth : X → C → ℕ) (levels : C → ℕ) (stands : S → Type 0) (goes : Step C N → S → S → Type 0) (name : N) (client ticket : ℕ) (options : PoolOptions) where
  -- nothing is to be tested
  pub tests_none : (left : ℕ) (s : Stage C H) (seen : List S) (out : X) → wants_test s ≡ false → TestsFrom does depth levels stands goes name client ticket left options s seen out s seen out
  unfolding Tests
  tests_none left s seen out none m told is =
      let asked : next_test told ≡ None = sym (test-asked m told) ∙ (ap test_in (sym is) ∙ none-tested s none) in
      let same : without_test (stage_by m told) ≡ stage_by m told = without-none (stage_by m told) (test-asked m told ∙ asked) in
      (told, is ∙ sym same, stay left asked)
    where
      stay : (n : ℕ) → next_test told ≡ None → Tests does depth levels stands goes name client ticket n options m (record { told = told; seen = seen; out = out }) (record { told = told; seen = seen; out = out })
      stay zero e = refl
      stay (suc n) e = by_none (next_test told) _ _ e refl

  -- no test is left
  pub tests_over : (left : ℕ) (i : Idle C) (at : Moment) (s : Stage C H) (seen : List S) (out : X) → left ≡ 0 → s ≡ stage.Test i at
      → TestsFrom does depth levels stands goes name client ticket left options s seen out (stage.Left i.lent.raw true error.NotHeld) seen out
  unfolding Tests
  tests_over left i at s seen out over test m told is =
      (told, ap without_test (sym (ap alone test) ∙ is), subst (λ n. Tests does depth levels stands goes name client ticket n options m (record { told = told; seen = seen; out = out }) (record { told = told; seen = seen; out = out })) (sym over) refl)

  -- one is made, and further ones behind it
  pub tests_next : (left later : ℕ) (i : Idle C) (at : Moment) (s next came : Stage C H) (seen mid seen_now : List S) (old between new : X) → left ≡ suc later → s ≡ stage.Test i at
      → TestsTo does depth levels stands goes name client ticket options at i seen old next mid between
      → TestsFrom does depth levels stands goes name client ticket later options next mid between came seen_now new
      → TestsFrom does depth levels stands goes name client ticket left options s seen old came seen_now new
  unfolding Tests
  tests_next left later i at s next came seen mid seen_now old between new more test one rest m told is =
      let e : stage.Test i at ≡ stage_by m told = sym (ap alone test) ∙ is in
      let asked : next_test told ≡ Some i = sym (test-asked m told) ∙ ap test_in (sym e) in
      let same : at ≡ m = ap (moment_in m) e ∙ moment-asked m told in
      let behind = rest m (ToldTest one.0 one.1) (one.2 ∙ ap (λ t. tested_stage t one.1) same) in
      let first : TestsOne does depth levels stands goes name client ticket options m i (record { told = told; seen = seen; out = old }) (record { told = ToldTest one.0 one.1; seen = mid; out = between }) =
      record { verdict = one.0; answer = one.1; tests = subst (λ t. TestsFlat does depth levels options t.0 i one.0 old between) same one.3; tells = one.4; told = refl } in (
        behind.0,
        behind.1,
        subst (λ n. Tests does depth levels stands goes name client ticket n options m (record { told = told; seen = seen; out = old }) (record { told = behind.0; seen = seen_now; out = new })) (sym more)
            (by_some (next_test told) i _ _ asked (record { told = ToldTest one.0 one.1; seen = mid; out = between }, first, behind.2)),
      )

module _ {C O X N S L H : Type 0} (does : Call C O → X → X → Type 0) (depth : X → C → ℕ) (levels : C → ℕ) (stands : S → Type 0) (goes : Step C N → S → S → Type 0) (name : N) (client ticket : ℕ) (tells : Look N L O → S → Type 0) (now : Moment) (options : PoolOptions) where
  -- nothing is to be opened
  pub opens_none : (s : Stage C H) (seen : List S) (out : X) → wants_connect s ≡ false → OpensFrom does depth levels stands goes name client ticket tells now options s seen out s seen out
  opens_none s seen out none m told is =
      let asked : opens_next told ≡ false = sym (connect-asked m told) ∙ (ap connect_in (sym is) ∙ none-opened s none) in
      (told, is, by_false (opens_next told) _ _ asked refl)

  -- a try is made
  pub opens_one : (opening : Opening C) (told-of : Tried C) (s came : Stage C H) (seen looked seen_now : List S) (old new : X) → s ≡ stage.Connect → told-of ≡ tried_of opening
      → TriesOrLacks does depth levels stands tells options.after_connect opening seen looked old new
      → TellsTry stands goes name client ticket now opening told-of looked came seen_now
      → OpensFrom does depth levels stands goes name client ticket tells now options s seen old came seen_now new
  opens_one opening told-of s came seen looked seen_now old new connects same tries end m told is =
      let asked : opens_next told ≡ true = sym (connect-asked m told) ∙ ap connect_in (sym is ∙ ap alone connects) in
      let one : OpensOne does depth levels stands goes name client ticket tells now options (record { told = told; seen = seen; out = old }) (record { told = ToldTry opening end.0; seen = seen_now; out = new }) =
      record { opening = opening; answer = end.0; looked = looked; tries = tries; ends = subst (λ t. SeesStep stands looked seen_now (goes (call.EndTry name client ticket now t end.0))) same end.2; told = refl } in
      (ToldTry opening end.0, end.1 ∙ sym (without-none (tried_stage opening end.0) (test-asked m (ToldTry opening end.0) ∙ refl)), by_true (opens_next told) _ _ asked one)

  -- a poll goes on by its tests and its try
  pub goes_from : {T P : Type 0} (shows : T → Lent C) (left : ℕ) (begun tested came : Stage C H) (seen mid seen_now : List S) (old between opened new : X) (result : Polling T P) → left ≡ options.idle_tries
      → TestsFrom does depth levels stands goes name client ticket left options begun seen old tested mid between
      → OpensFrom does depth levels stands goes name client ticket tells now options tested mid between came seen_now opened
      → Ends does depth levels shows (alone came) result opened new
      → GoesFrom does depth levels stands goes name client ticket tells now options shows begun seen old seen_now result new
  goes_from shows left begun tested came seen mid seen_now old between opened new result tries tests opens ends m told is =
      let t = tests m told is in
      let o = opens m t.0 t.1 in
      record {
        tried_for = record { told = t.0; seen = mid; out = between };
        last = record { told = o.0; seen = seen_now; out = opened };
        tests = subst (λ n. Tests does depth levels stands goes name client ticket n options m (record { told = told; seen = seen; out = old }) (record { told = t.0; seen = mid; out = between })) tries t.2;
        opens = o.2;
        sees = refl;
        ends = subst (λ s. Ends does depth levels shows s result opened new) o.1 ends;
      }

-- what a poll left is closed, hard or gently, as its stage says
pub ends_left : {C O X T : Type 0} (P : Type 0) (does : Call C O → X → X → Type 0) (depth : X → C → ℕ) (levels : C → ℕ) (shows : T → Lent C) (raw : C) (hard : Bool) (e : Error) (old new : X)
    → Closes does (if hard then check.CloseHard else check.Close) raw old new → Ends does depth levels {T = T} {P = P} shows (stage.Left raw hard e) (polling.Failed e) old new
ends_left P does depth levels shows raw true e old new closes = (refl, closes)
ends_left P does depth levels shows raw false e old new closes = (refl, closes)
