-- Why a keeping of the minimum ends: what a try that opened nothing says of the outside.
use Rattle.std.proofs.Common.{◌≡◌, ℕ, ◌+◌, ◌≤◌, ◌<◌, ◌⊎◌, inl, inr, Bool, true, false, List, [], ◌∷◌, sym, ◌∙◌, subst, arith}
use Rattle.std.proofs.lemmas.Bool.{lt-ltb}
use Rattle.sqlx_text.specs.declared.error.Error.{Error}
use Rattle.sqlx_pool_lists.specs.declared.options.PoolOptions.{PoolOptions}
use Rattle.sqlx_pool_core.specs.declared.idle_check.Opening.{Opening}
use Rattle.sqlx_pool_core.specs.declared.idle_check.Opening.TheVariants.{Opened, Rejected, Transient, Failed}
use Rattle.sqlx_pool_lists.specs.declared.steps.Openings.{Openings}
use Rattle.sqlx_pool_core.specs.Calls.{Call, Facts}
use Rattle.sqlx_pool_core.specs.Chain.{Tries}
use Rattle.sqlx_pool_lists.specs.Core.{Core}
use Rattle.sqlx_pool_lists.specs.MaintenanceSteps.{has_place, lacks}
use Rattle.sqlx_pool_core.specs.Minimum.{filled, opened_of, is_short, Keeps, KeepsMinimum}
use Rattle.sqlx_pool_core.specs.Outside.{is_want}
use Rattle.sqlx_pool_core.proofs.CheckKeeps.{tries-more}
use Rattle.sqlx_pool_core.proofs.KeepRuns.{SoFar, so-none, so-place, so-opened, kept-so, kept-place}
use Rattle.sqlx_pool_core.proofs.CheckEnds as tried
use Rattle.sqlx_pool_core.proofs.CheckEnds.{never}

-- ---- the whole keeping

module _ {C O X : Type 0} (does : Call C O → X → X → Type 0) (depth : X → C → ℕ) (faults refusals : X → ℕ) (IsShort : X → Type 0) (facts : (c : Call C O) (old new : X) → does c old new → Facts faults refusals depth IsShort c old new) where
  -- a refusal was counted
  abbrev Counted : X → X → Type 0
  Counted = tried.Counted does depth faults refusals IsShort facts

  -- what a try says of the outside, if it opened nothing
  abbrev IfUnopened : Opening C → X → X → Type 0
  IfUnopened = tried.IfUnopened does depth faults refusals IsShort facts

  -- why it ends: no place is left, a refusal was counted, or memory was wanting
  abbrev pub WhyEnds : Core C → Bool → X → X → Type 0
  WhyEnds new short old out = (has_place new.options.min_connections new ≡ false) ⊎ (Counted old out ⊎ (short ≡ true))

  ends-before : (new : Core C) (short : Bool) (old mid out : X) → faults old ≤ faults mid → refusals old ≤ refusals mid → WhyEnds new short mid out → WhyEnds new short old out
  ends-before new short old mid out f r (inl full) = inl full
  ends-before new short old mid out f r (inr (inl c)) = inr (inl (tried.counted-before does depth faults refusals IsShort facts old mid out f r c))
  ends-before new short old mid out f r (inr (inr s)) = inr (inr s)

  more-faults : (hook : Bool) (options : O) (o : Opening C) (old new : X) → Tries does depth hook options o old new → faults old ≤ faults new
  more-faults hook options o old new t = tries-more does depth faults (λ c x y d. (facts c x y d).more_faults) hook options o old new t

  more-refusals : (hook : Bool) (options : O) (o : Opening C) (old new : X) → Tries does depth hook options o old new → refusals old ≤ refusals new
  more-refusals hook options o old new t = tries-more does depth refusals (λ c x y d. (facts c x y d).more_refusals) hook options o old new t

  failed-ends : (new : Core C) (e : Error) (old out : X) → IfUnopened (Failed e) old out → WhyEnds new (is_want e) old out
  failed-ends new e old out u = by u.0
    where
      by : Counted old out ⊎ (is_want e ≡ true) → WhyEnds new (is_want e) old out
      by (inl c) = inr (inl c)
      by (inr w) = inr (inr w)

  ends-all : (options : O) (now : ℕ) (tries : List (Opening C)) (mid new : Core C) (old out : X) → Keeps does depth options now tries mid new old out → WhyEnds new (is_short tries) old out
  ends-all options now [] mid new old out keeps = inl (subst (λ (c : Core C). has_place c.options.min_connections c ≡ false) (sym keeps.1) keeps.0)
  ends-all options now (Opened raw ∷ tries) mid new old out keeps =
      let hook = mid.options.after_connect in
      let try = keeps.1.1.0 in
      ends-before new (is_short tries) old keeps.1.0 out (more-faults hook options (Opened raw) old keeps.1.0 try) (more-refusals hook options (Opened raw) old keeps.1.0 try)
      (ends-all options now tries (filled now (Opened raw) mid) new keeps.1.0 out keeps.1.1.2)
  ends-all options now (Rejected ∷ []) mid new old out keeps = inr (inl (tried.unopened does depth faults refusals IsShort facts mid.options.after_connect options Rejected old out keeps.1))
  ends-all options now (Transient ∷ []) mid new old out keeps = inr (inl (tried.unopened does depth faults refusals IsShort facts mid.options.after_connect options Transient old out keeps.1))
  ends-all options now (Failed e ∷ []) mid new old out keeps = failed-ends new e old out (tried.unopened does depth faults refusals IsShort facts mid.options.after_connect options (Failed e) old out keeps.1)
  ends-all options now (Rejected ∷ o ∷ tries) mid new old out keeps = absurd keeps
  ends-all options now (Transient ∷ o ∷ tries) mid new old out keeps = absurd keeps
  ends-all options now (Failed e ∷ o ∷ tries) mid new old out keeps = absurd keeps

  module _ (options : O) (now : ℕ) (core : Core C) where
    abbrev pub Going : Core C → ℕ → Type 0
    Going mid k = SoFar does depth faults refusals IsShort facts options now core mid k

    short-all : (tries : List (Opening C)) (mid new : Core C) (k : ℕ) (old out : X) → Going mid k → Keeps does depth options now tries mid new old out → is_short tries ≡ true → IsShort out × (k + opened_of tries < lacks core)
    short-all [] mid new k old out s keeps is = never is
    short-all (Opened raw ∷ tries) mid new k old out s keeps is =
        let next = so-opened does depth faults refusals IsShort facts options now core mid k raw old keeps.1.0 s keeps.0 keeps.1.1.0 keeps.1.1.1 in
        let later = short-all tries (filled now (Opened raw) mid) new (k + 1) keeps.1.0 out next keeps.1.1.2 is in
        let below = later.1 in
        (later.0, omega (arith, below))
    short-all (Rejected ∷ []) mid new k old out s keeps is = never is
    short-all (Transient ∷ []) mid new k old out s keeps is = never is
    short-all (Failed e ∷ []) mid new k old out s keeps is =
        let below = so-place does depth faults refusals IsShort facts options now core mid k s keeps.0 in
        ((tried.unopened does depth faults refusals IsShort facts mid.options.after_connect options (Failed e) old out keeps.1).1 is, omega (arith, below))
    short-all (Rejected ∷ o ∷ tries) mid new k old out s keeps is = absurd keeps
    short-all (Transient ∷ o ∷ tries) mid new k old out s keeps is = absurd keeps
    short-all (Failed e ∷ o ∷ tries) mid new k old out s keeps is = absurd keeps

    pub kept-ends : (new : Core C) (old out : X) (r : Openings) → KeepsMinimum does depth options now core new old out r → (has_place core.options.min_connections new ≡ false) ⊎ (Counted old out ⊎ (r.short ≡ true))
    kept-ends new old out r k =
        let same = (kept-so does depth faults refusals IsShort facts options now core new old out r k).opens.options in
        subst (λ (o : PoolOptions). (has_place o.min_connections new ≡ false) ⊎ (Counted old out ⊎ (r.short ≡ true))) same
        (subst (λ (b : Bool). (has_place new.options.min_connections new ≡ false) ⊎ (Counted old out ⊎ (b ≡ true))) (sym k.short) (ends-all options now k.tries core new old out k.keeps))

    pub kept-short : (new : Core C) (old out : X) (r : Openings) → KeepsMinimum does depth options now core new old out r → r.short ≡ true → (has_place core.options.min_connections new ≡ true) × IsShort out
    kept-short new old out r k is =
        let all = short-all k.tries core new 0 old out (so-none does depth faults refusals IsShort facts options now core) k.keeps (sym k.short ∙ is) in
        let few = all.1 in
        let count = k.opened in
        (kept-place does depth faults refusals IsShort facts options now core new r.opened (kept-so does depth faults refusals IsShort facts options now core new old out r k) ∙ lt-ltb r.opened (lacks core) (omega (arith, few, count)), all.0)
