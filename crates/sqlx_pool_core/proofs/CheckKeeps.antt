-- What no call ends stays so over a test and a try, and no count falls there.
use Rattle.std.proofs.Common.{◌≡◌, ℕ, ◌≤◌, Bool, true, false, Result, Ok, Err, sym, subst, arith}
use Rattle.sqlx_text.specs.declared.error.Error.{Error}
use Rattle.sqlx_pool_lists.specs.declared.options.PoolOptions.{PoolOptions}
use Rattle.sqlx_pool_core.specs.declared.outside.PoolConnectionMetadata.{PoolConnectionMetadata}
use Rattle.sqlx_pool_core.specs.declared.idle_check.Check.{Check}
use Rattle.sqlx_pool_core.specs.declared.idle_check.Check.TheVariants as check
use Rattle.sqlx_pool_core.specs.declared.idle_check.Opening.{Opening}
use Rattle.sqlx_pool_lists.specs.declared.steps.Idle.{Idle}
use Rattle.sqlx_pool_lists.specs.declared.steps.Lent.{Lent}
use Rattle.sqlx_pool_lists.specs.declared.steps.Verdict.{Verdict}
use Rattle.sqlx_pool_core.specs.Calls.{Call, connect, ping, after_connect, before_acquire, close, close_hard}
use Rattle.sqlx_pool_core.specs.Chain.{new_meta, Pings, LooksIf, Sorts, Tests, SetsUp, KeepsIf, Follows, Tries}

-- a fact that no call ends, over what a test and a try do
module _ {C O X : Type 0} (does : Call C O → X → X → Type 0) (depth : X → C → ℕ) (P : X → Type 0) (step : (c : Call C O) (old new : X) → does c old new → P old → P new) where
  pub kept : (old new : X) → new ≡ old → P old → P new
  kept old new e h = subst P (sym e) h

  ping-keeps : (asked : Bool) (raw now : C) (good : Bool) (old new : X) → P old → Pings does depth asked raw now good old new → P new
  ping-keeps true raw now good old new h p = step (ping raw p.0 now) old new p.1 h
  ping-keeps false raw now good old new h p = kept old new p.2 h

  look-keeps : (good hook : Bool) (meta : PoolConnectionMetadata) (raw now : C) (c : Check) (old new : X) → P old → LooksIf does depth good hook meta raw now c old new → P new
  look-keeps true true meta raw now c old new h p = step (before_acquire raw meta p.0 now) old new p.1 h
  look-keeps true false meta raw now c old new h p = kept old new p.2 h
  look-keeps false hook meta raw now c old new h p = kept old new p.2 h

  sort-keeps : (c : Check) (lent : Lent C) (v : Verdict C) (old new : X) → P old → Sorts does depth c lent v old new → P new
  sort-keeps check.Pass lent v old new h s = kept old new s.1 h
  sort-keeps check.Close lent v old new h s = step (close lent.raw) old new s.1 h
  sort-keeps check.CloseHard lent v old new h s = step (close_hard lent.raw) old new s.1 h

  pub tests-keep : (options : PoolOptions) (m : ℕ) (i : Idle C) (v : Verdict C) (old new : X) → P old → Tests does depth options m i v old new → P new
  tests-keep options m i v old new h t =
      let k = t.checks in
      sort-keeps t.check (record i.lent { raw = t.raw }) v t.between new (look-keeps _ _ _ _ _ _ _ _ (ping-keeps _ _ _ _ _ _ h k.pings) k.looks) t.sorts

  set-keeps : (hook : Bool) (raw now : C) (good : Bool) (old new : X) → P old → SetsUp does depth hook raw now good old new → P new
  set-keeps true raw now good old new h s = step (after_connect raw new_meta s.0 now) old new s.1 h
  set-keeps false raw now good old new h s = kept old new s.2 h

  keep-keeps : (good : Bool) (raw : C) (o : Opening C) (old new : X) → P old → KeepsIf does depth good raw o old new → P new
  keep-keeps true raw o old new h k = kept old new k.1 h
  keep-keeps false raw o old new h k = step (close_hard raw) old new k.1 h

  follow-keeps : (hook : Bool) (r : Result C Error) (o : Opening C) (old new : X) → P old → Follows does depth hook r o old new → P new
  follow-keeps hook (Ok raw) o old new h f = keep-keeps f.good f.now o f.between new (set-keeps hook raw f.now f.good old f.between h f.sets_up) f.keeps
  follow-keeps hook (Err e) o old new h f = kept old new f.1 h

  pub tries-keep : (hook : Bool) (options : O) (o : Opening C) (old new : X) → P old → Tries does depth hook options o old new → P new
  tries-keep hook options o old new h t = follow-keeps hook t.answer o t.between new (step (connect options t.answer) old t.between t.connects h) t.follows

-- ---- without the hook

-- a fact that no ping and no close ends, over a test where no hook is asked
module _ {C O X : Type 0} (does : Call C O → X → X → Type 0) (depth : X → C → ℕ) (P : X → Type 0) (pinged : (conn : C) (answer : Result (Unit {0}) Error) (now : C) (old new : X) → does (ping conn answer now) old new → P old → P new)
    (closed : (conn : C) (old new : X) → does (close conn) old new → P old → P new) (closed_hard : (conn : C) (old new : X) → does (close_hard conn) old new → P old → P new) where
  quiet-pings : (asked : Bool) (raw now : C) (good : Bool) (old new : X) → P old → Pings does depth asked raw now good old new → P new
  quiet-pings true raw now good old new h p = pinged raw p.0 now old new p.1 h
  quiet-pings false raw now good old new h p = subst P (sym p.2) h

  quiet-looks : (good hook : Bool) (meta : PoolConnectionMetadata) (raw now : C) (c : Check) (old new : X) → hook ≡ false → P old → LooksIf does depth good hook meta raw now c old new → P new
  quiet-looks true true meta raw now c old new off h p = absurd cc
  quiet-looks true false meta raw now c old new off h p = subst P (sym p.2) h
  quiet-looks false hook meta raw now c old new off h p = subst P (sym p.2) h

  quiet-sorts : (c : Check) (lent : Lent C) (v : Verdict C) (old new : X) → P old → Sorts does depth c lent v old new → P new
  quiet-sorts check.Pass lent v old new h s = subst P (sym s.1) h
  quiet-sorts check.Close lent v old new h s = closed lent.raw old new s.1 h
  quiet-sorts check.CloseHard lent v old new h s = closed_hard lent.raw old new s.1 h

  pub quiet-keeps : (options : PoolOptions) (m : ℕ) (i : Idle C) (v : Verdict C) (old new : X) → options.before_acquire ≡ false → P old → Tests does depth options m i v old new → P new
  quiet-keeps options m i v old new off h t =
      let k = t.checks in
      quiet-sorts t.check (record i.lent { raw = t.raw }) v t.between new (quiet-looks _ _ _ _ _ _ _ _ off (quiet-pings _ _ _ _ _ _ h k.pings) k.looks) t.sorts

-- ---- counts

pub trans : (a b c : ℕ) → a ≤ b → b ≤ c → a ≤ c
trans a b c h k = omega arith

pub same : (n : ℕ) → n ≤ n
same n = omega arith

module _ {C O X : Type 0} (does : Call C O → X → X → Type 0) (depth : X → C → ℕ) (count : X → ℕ) (more : (c : Call C O) (old new : X) → does c old new → count old ≤ count new) where
  -- a count that no call lowers
  pub risen : (old : X) (c : Call C O) (x y : X) → does c x y → count old ≤ count x → count old ≤ count y
  risen old c x y d h = trans (count old) (count x) (count y) h (more c x y d)

  pub tests-more : (options : PoolOptions) (m : ℕ) (i : Idle C) (v : Verdict C) (old new : X) → Tests does depth options m i v old new → count old ≤ count new
  tests-more options m i v old new t = tests-keep does depth (λ x. count old ≤ count x) (risen old) options m i v old new (same (count old)) t

  pub tries-more : (hook : Bool) (options : O) (o : Opening C) (old new : X) → Tries does depth hook options o old new → count old ≤ count new
  tries-more hook options o old new t = tries-keep does depth (λ x. count old ≤ count x) (risen old) hook options o old new (same (count old)) t
