-- What a test and a try came to: whose connection it was, whether it rests, and why none was opened.
use Rattle.std.proofs.Common.{◌≡◌, ◌==◌, ℕ, ◌≤◌, ◌⊎◌, inl, inr, Bool, true, false, is_err, cond, Result, Ok, Err, refl, sym, ap, subst, ◌∙◌, arith}
use Rattle.std.proofs.lemmas.Bool.{eqb-true}
use Rattle.sqlx_text.specs.declared.error.Error.{Error}
use Rattle.sqlx_text.specs.declared.error.Error.TheVariants.{OutOfMemory}
use Rattle.sqlx_text.specs.declared.error.Error.TheVariants as error
use Rattle.sqlx_pool_lists.specs.declared.options.PoolOptions.{PoolOptions}
use Rattle.sqlx_pool_core.specs.declared.outside.PoolConnectionMetadata.{PoolConnectionMetadata}
use Rattle.sqlx_pool_core.specs.declared.idle_check.Check.{Check}
use Rattle.sqlx_pool_core.specs.declared.idle_check.Check.TheVariants as check
use Rattle.sqlx_pool_core.specs.declared.idle_check.Opening.{Opening}
use Rattle.sqlx_pool_core.specs.declared.idle_check.Opening.TheVariants as opening
use Rattle.sqlx_pool_core.specs.declared.idle_check.Opening.TheVariants.{Opened, Rejected, Transient, Failed}
use Rattle.sqlx_pool_lists.specs.declared.steps.Idle.{Idle}
use Rattle.sqlx_pool_lists.specs.declared.steps.Lent.{Lent}
use Rattle.sqlx_pool_lists.specs.declared.steps.Verdict.{Verdict}
use Rattle.sqlx_pool_lists.specs.PollSteps.{judged}
use Rattle.sqlx_pool_core.specs.CameTo.{IfAccepted, IfOpened, IfFailed, IsForGood}
use Rattle.sqlx_pool_core.specs.Calls.{Call, Facts, Levels, connect, ping, after_connect, close_hard}
use Rattle.sqlx_pool_core.specs.Chain.{new_meta, check_by, Pings, LooksIf, Sorts, Tests, SetsUp, KeepsIf, Follows, Tries}
use Rattle.sqlx_pool_core.specs.Outside.{HasRisen, is_transient, is_want, says_ok}

-- a verdict names the connection that was tested
sorts-judged : {C O X : Type 0} (does : Call C O → X → X → Type 0) (depth : X → C → ℕ) (c : Check) (lent : Lent C) (verdict : Verdict C) (old now : X) → Sorts does depth c lent verdict old now → judged verdict ≡ lent.id
sorts-judged does depth check.Pass lent verdict old now s = ap judged s.0
sorts-judged does depth check.Close lent verdict old now s = ap judged s.0
sorts-judged does depth check.CloseHard lent verdict old now s = ap judged s.0

pub tests-judged : {C O X : Type 0} (does : Call C O → X → X → Type 0) (depth : X → C → ℕ) (set : PoolOptions) (m : ℕ) (i : Idle C) (verdict : Verdict C) (old now : X) → Tests does depth set m i verdict old now → judged verdict ≡ i.lent.id
tests-judged does depth set m i verdict old now s = sorts-judged does depth s.check (record i.lent { raw = s.raw }) verdict s.between now s.sorts

-- ---- levels

-- the hook left no level open
abbrev pub IfPass : Check → Type 0 → Type 0
IfPass check.Pass P = P
IfPass check.Close P = Unit {0}
IfPass check.CloseHard P = Unit {0}

check-rests : (answer : Result Bool Error) (n : ℕ) (c : Check) → c ≡ check_by answer n → IfPass c (n ≡ 0)
check-rests answer n c e = subst (λ (d : Check). IfPass d (n ≡ 0)) (sym e) (by answer)
  where
    at : (b : Bool) → (n == 0) ≡ b → IfPass (cond b check.Pass check.CloseHard) (n ≡ 0)
    at true is = eqb-true n 0 is
    at false is = tt

    by : (answer : Result Bool Error) → IfPass (check_by answer n) (n ≡ 0)
    by (Ok true) = at (n == 0) refl
    by (Ok false) = tt
    by (Err e) = tt

ok-rests : (answer : Result (Unit {0}) Error) (n : ℕ) → true ≡ says_ok answer n → n ≡ 0
ok-rests (Ok done) n e = eqb-true n 0 (sym e)
ok-rests (Err x) n e = absurd cc

module _ {C O X : Type 0} (does : Call C O → X → X → Type 0) (depth : X → C → ℕ) (levels : (c : Call C O) (old new : X) → does c old new → Levels depth c old new) where
  ping-rests : (asked : Bool) (raw now : C) (good : Bool) (old new : X) → depth old raw ≡ 0 → Pings does depth asked raw now good old new → depth new now ≡ 0
  ping-rests true raw now good old new rests p = levels (ping raw p.0 now) old new p.1 ∙ rests
  ping-rests false raw now good old new rests p = (λ i. depth (p.2 i) (p.0 i)) ∙ rests

  look-rests : (good hook : Bool) (meta : PoolConnectionMetadata) (raw now : C) (c : Check) (old new : X) → depth old raw ≡ 0 → LooksIf does depth good hook meta raw now c old new → IfPass c (depth new now ≡ 0)
  look-rests true true meta raw now c old new rests p = check-rests p.0 (depth new now) c p.2
  look-rests true false meta raw now c old new rests p = subst (λ (d : Check). IfPass d (depth new now ≡ 0)) (sym p.1) ((λ i. depth (p.2 i) (p.0 i)) ∙ rests)
  look-rests false hook meta raw now c old new rests p = subst (λ (d : Check). IfPass d (depth new now ≡ 0)) (sym p.1) tt

  sort-rests : (c : Check) (lent : Lent C) (v : Verdict C) (old new : X) → IfPass c (depth old lent.raw ≡ 0) → Sorts does depth c lent v old new → IfAccepted v (λ raw. depth new raw ≡ 0)
  sort-rests check.Pass lent v old new rests s = subst (λ (w : Verdict C). IfAccepted w (λ raw. depth new raw ≡ 0)) (sym s.0) (ap (λ (x : X). depth x lent.raw) s.1 ∙ rests)
  sort-rests check.Close lent v old new rests s = subst (λ (w : Verdict C). IfAccepted w (λ raw. depth new raw ≡ 0)) (sym s.0) tt
  sort-rests check.CloseHard lent v old new rests s = subst (λ (w : Verdict C). IfAccepted w (λ raw. depth new raw ≡ 0)) (sym s.0) tt

  -- the hook lets pass only what has no level open; where it isn't set, what had none passes with none
  looks-rest : (good hook : Bool) (meta : PoolConnectionMetadata) (raw now : C) (c : Check) (old new : X) → (hook ≡ false → depth old raw ≡ 0) → LooksIf does depth good hook meta raw now c old new → IfPass c (depth new now ≡ 0)
  looks-rest true true meta raw now c old new rests p = check-rests p.0 (depth new now) c p.2
  looks-rest true false meta raw now c old new rests p = look-rests true false meta raw now c old new (rests refl) p
  looks-rest false hook meta raw now c old new rests p = subst (λ (d : Check). IfPass d (depth new now ≡ 0)) (sym p.1) tt

  pub tests-rest : (options : PoolOptions) (m : ℕ) (i : Idle C) (v : Verdict C) (old new : X) → (options.before_acquire ≡ false → depth old i.lent.raw ≡ 0) → Tests does depth options m i v old new → IfAccepted v (λ raw. depth new raw ≡ 0)
  tests-rest options m i v old new rests t =
      let k = t.checks in
      sort-rests t.check (record i.lent { raw = t.raw }) v t.between new (looks-rest _ _ _ _ _ _ _ _ (λ off. ping-rests _ _ _ _ _ _ (rests off) k.pings) k.looks) t.sorts

  keep-rests : (good : Bool) (raw : C) (o : Opening C) (old new : X) → (good ≡ true → depth old raw ≡ 0) → KeepsIf does depth good raw o old new → IfOpened o (λ raw. depth new raw ≡ 0)
  keep-rests true raw o old new rests k = subst (λ (p : Opening C). IfOpened p (λ raw. depth new raw ≡ 0)) (sym k.0) (ap (λ (x : X). depth x raw) k.1 ∙ rests refl)
  keep-rests false raw o old new rests k = subst (λ (p : Opening C). IfOpened p (λ raw. depth new raw ≡ 0)) (sym k.0) tt

  set-rests : (hook : Bool) (raw now : C) (good : Bool) (old new : X) → depth old raw ≡ 0 → SetsUp does depth hook raw now good old new → good ≡ true → depth new now ≡ 0
  set-rests true raw now good old new rests s is = ok-rests s.0 (depth new now) (sym is ∙ s.2)
  set-rests false raw now good old new rests s is = (λ i. depth (s.2 i) (s.0 i)) ∙ rests

  refused-rests : (o : Opening C) (e : Error) (b : Bool) (new : X) → o ≡ cond b opening.Transient (opening.Failed e) → IfOpened o (λ raw. depth new raw ≡ 0)
  refused-rests o e true new is = subst (λ (p : Opening C). IfOpened p (λ raw. depth new raw ≡ 0)) (sym is) tt
  refused-rests o e false new is = subst (λ (p : Opening C). IfOpened p (λ raw. depth new raw ≡ 0)) (sym is) tt

  follow-rests : (hook : Bool) (options : O) (r : Result C Error) (o : Opening C) (old mid new : X) → does (connect options r) old mid → Follows does depth hook r o mid new → IfOpened o (λ raw. depth new raw ≡ 0)
  follow-rests hook options (Ok raw) o old mid new d f = keep-rests f.good f.now o f.between new (set-rests hook raw f.now f.good mid f.between (levels (connect options (Ok raw)) old mid d) f.sets_up) f.keeps
  follow-rests hook options (Err e) o old mid new d f = refused-rests o e (is_transient e) new f.0

  pub tries-rest : (hook : Bool) (options : O) (o : Opening C) (old new : X) → Tries does depth hook options o old new → IfOpened o (λ raw. depth new raw ≡ 0)
  tries-rest hook options o old new t = follow-rests hook options t.answer o old t.between new t.connects t.follows

-- ---- causes

pub later : (e : Error) (a b c : ℕ) → b ≤ c → (e ≡ OutOfMemory) ⊎ HasRisen a b → (e ≡ OutOfMemory) ⊎ HasRisen a c
later e a b c h (inl want) = inl want
later e a b c h (inr (inl risen)) = inr (inl (omega (arith, h, risen)))
later e a b c h (inr (inr full)) = inr (inr (omega (arith, h, full)))

pub sooner : (e : Error) (a b c : ℕ) → a ≤ b → (e ≡ OutOfMemory) ⊎ HasRisen b c → (e ≡ OutOfMemory) ⊎ HasRisen a c
sooner e a b c h (inl want) = inl want
sooner e a b c h (inr (inl risen)) = inr (inl (omega (arith, h, risen)))
sooner e a b c h (inr (inr full)) = inr (inr full)

module _ {C O X : Type 0} (does : Call C O → X → X → Type 0) (depth : X → C → ℕ) (faults refusals : X → ℕ) (IsShort : X → Type 0) (facts : (c : Call C O) (old new : X) → does c old new → Facts faults refusals depth IsShort c old new) where
  keep-cause : (good : Bool) (raw : C) (o : Opening C) (old new : X) (P : Error → Type 0) → KeepsIf does depth good raw o old new → IfFailed o P
  keep-cause true raw o old new P k = subst (λ (p : Opening C). IfFailed p P) (sym k.0) tt
  keep-cause false raw o old new P k = subst (λ (p : Opening C). IfFailed p P) (sym k.0) tt

  refused-cause : (o : Opening C) (e : Error) (b : Bool) (old mid new : X) → is_transient e ≡ b → o ≡ cond b opening.Transient (opening.Failed e) → (e ≡ OutOfMemory) ⊎ HasRisen (faults old) (faults mid) → new ≡ mid
      → IfFailed o (λ e. IsForGood (faults old) (faults new) e)
  refused-cause o e true old mid new t is why kept = subst (λ (p : Opening C). IfFailed p (λ e. IsForGood (faults old) (faults new) e)) (sym is) tt
  refused-cause o e false old mid new t is why kept =
      subst (λ (p : Opening C). IfFailed p (λ e. IsForGood (faults old) (faults new) e)) (sym is) (subst (λ (x : X). (e ≡ OutOfMemory) ⊎ HasRisen (faults old) (faults x)) (sym kept) why, t)

  pub tries-cause : (hook : Bool) (options : O) (o : Opening C) (old new : X) → Tries does depth hook options o old new → IfFailed o (λ e. IsForGood (faults old) (faults new) e)
  tries-cause hook options o old new t = by t.answer t.connects t.follows
    where
      by : (r : Result C Error) → does (connect options r) old t.between → Follows does depth hook r o t.between new → IfFailed o (λ e. IsForGood (faults old) (faults new) e)
      by (Ok raw) d f = keep-cause f.good f.now o f.between new _ f.keeps
      by (Err e) d f = refused-cause o e (is_transient e) old t.between new refl f.0 (facts (connect options (Err e)) old t.between d).causes f.1

pub never : {A : Type 0} → false ≡ true → A
never e = absurd cc

-- ---- the error

is-want : (e : Error) → e ≡ error.OutOfMemory → is_want e ≡ true
is-want e is = ap is_want is

want-is : (e : Error) → is_want e ≡ true → e ≡ error.OutOfMemory
want-is error.OutOfMemory is = refl
want-is (error.Configuration x) is = absurd cc
want-is (error.InvalidArgument x) is = absurd cc
want-is (error.Database x) is = absurd cc
want-is (error.Io x) is = absurd cc
want-is (error.Protocol x) is = absurd cc
want-is error.RowNotFound is = absurd cc
want-is (error.TypeNotFound x) is = absurd cc
want-is (error.ColumnIndexOutOfBounds x y) is = absurd cc
want-is (error.ColumnNotFound x) is = absurd cc
want-is (error.ColumnDecode x y) is = absurd cc
want-is (error.Encode x) is = absurd cc
want-is (error.Decode x) is = absurd cc
want-is (error.AnyDriverError x) is = absurd cc
want-is error.PoolTimedOut is = absurd cc
want-is error.PoolClosed is = absurd cc
want-is error.InvalidSavePointStatement is = absurd cc
want-is error.BeginFailed is = absurd cc
want-is error.Exhausted is = absurd cc
want-is error.NotHeld is = absurd cc

-- ---- counts

-- the count had risen already, and didn't fall
risen-later : (a b c : ℕ) → b ≤ c → HasRisen a b → HasRisen a c
risen-later a b c h (inl risen) = inl (omega (arith, h, risen))
risen-later a b c h (inr full) = inr (omega (arith, h, full))

-- the count didn't fall, and rose then
risen-sooner : (a b c : ℕ) → a ≤ b → HasRisen b c → HasRisen a c
risen-sooner a b c h (inl risen) = inl (omega (arith, h, risen))
risen-sooner a b c h (inr full) = inr full

-- ---- a try

module _ {C O X : Type 0} (does : Call C O → X → X → Type 0) (depth : X → C → ℕ) (faults refusals : X → ℕ) (IsShort : X → Type 0) (facts : (c : Call C O) (old new : X) → does c old new → Facts faults refusals depth IsShort c old new) where
  -- a refusal was counted
  abbrev pub Counted : X → X → Type 0
  Counted old new = HasRisen (faults old) (faults new) ⊎ HasRisen (refusals old) (refusals new)

  -- what a try says of the outside, if it opened nothing
  abbrev pub IfUnopened : Opening C → X → X → Type 0
  IfUnopened (Opened raw) old new = Unit {0}
  IfUnopened Rejected old new = Counted old new
  IfUnopened Transient old new = Counted old new
  IfUnopened (Failed e) old new = (Counted old new ⊎ (is_want e ≡ true)) × (is_want e ≡ true → IsShort new)

  pub counted-before : (old mid new : X) → faults old ≤ faults mid → refusals old ≤ refusals mid → Counted mid new → Counted old new
  counted-before old mid new f r (inl risen) = inl (risen-sooner (faults old) (faults mid) (faults new) f risen)
  counted-before old mid new f r (inr risen) = inr (risen-sooner (refusals old) (refusals mid) (refusals new) r risen)

  unopened-before : (o : Opening C) (old mid new : X) → faults old ≤ faults mid → refusals old ≤ refusals mid → IfUnopened o mid new → IfUnopened o old new
  unopened-before (Opened raw) old mid new f r u = tt
  unopened-before Rejected old mid new f r u = counted-before old mid new f r u
  unopened-before Transient old mid new f r u = counted-before old mid new f r u
  unopened-before (Failed e) old mid new f r u = (either u.0, u.1)
    where
      either : Counted mid new ⊎ (is_want e ≡ true) → Counted old new ⊎ (is_want e ≡ true)
      either (inl c) = inl (counted-before old mid new f r c)
      either (inr w) = inr w

  -- the hook failed, or left a level open
  hook-counted : (answer : Result (Unit {0}) Error) (levels before now : ℕ) → false ≡ says_ok answer levels → (is_err answer ≡ true → HasRisen before now) → ((levels == 0) ≡ false → HasRisen before now) → HasRisen before now
  hook-counted (Ok done) levels before now is failed left = left (sym is)
  hook-counted (Err e) levels before now is failed left = failed refl

  unready : (hook good : Bool) (raw now : C) (o : Opening C) (old mid new : X) → depth old raw ≡ 0 → SetsUp does depth hook raw now good old mid → KeepsIf does depth good now o mid new → IfUnopened o old new
  unready hook true raw now o old mid new rests s k = subst (λ (p : Opening C). IfUnopened p old new) (sym k.0) tt
  unready true false raw now o old mid new rests s k =
      let told = (facts (after_connect raw new_meta s.0 now) old mid s.1).causes in
      subst (λ (p : Opening C). IfUnopened p old new) (sym k.0)
      (inr (risen-later (refusals old) (refusals mid) (refusals new) (facts (close_hard now) mid new k.1).more_refusals (hook-counted s.0 (depth mid now) (refusals old) (refusals mid) s.2 told.0 (told.1 rests))))
  unready false false raw now o old mid new rests s k = never s.1

  refused-why : (e : Error) (b : Bool) (o : Opening C) (old new : X) → is_transient e ≡ b → o ≡ cond b Transient (Failed e) → (e ≡ error.OutOfMemory) ⊎ HasRisen (faults old) (faults new) → (e ≡ error.OutOfMemory → IsShort new) → IfUnopened o old new
  refused-why e true o old new t is (inl oom) want = never (sym (ap is_transient oom) ∙ t)
  refused-why e true o old new t is (inr risen) want = subst (λ (p : Opening C). IfUnopened p old new) (sym is) (inl risen)
  refused-why e false o old new t is (inl oom) want = subst (λ (p : Opening C). IfUnopened p old new) (sym is) (inr (is-want e oom), λ w. want (want-is e w))
  refused-why e false o old new t is (inr risen) want = subst (λ (p : Opening C). IfUnopened p old new) (sym is) (inl (inl risen), λ w. want (want-is e w))

  pub unopened : (hook : Bool) (options : O) (o : Opening C) (old new : X) → Tries does depth hook options o old new → IfUnopened o old new
  unopened hook options o old new t = by t.answer t.connects t.follows
    where
      by : (r : Result C Error) → does (connect options r) old t.between → Follows does depth hook r o t.between new → IfUnopened o old new
      by (Ok raw) d f =
          let told = facts (connect options (Ok raw)) old t.between d in
          unopened-before o old t.between new told.more_faults told.more_refusals (unready hook f.good raw f.now o t.between f.between new told.levels f.sets_up f.keeps)
      by (Err e) d f =
          let told = facts (connect options (Err e)) old t.between d in
          subst (λ (x : X). IfUnopened o old x) (sym f.1) (refused-why e (is_transient e) o old t.between refl f.0 told.causes (λ oom. told.want (ap Err oom)))
