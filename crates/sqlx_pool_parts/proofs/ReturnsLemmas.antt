-- What no call lowers, over the tests of a connection that comes back.
use Rattle.std.proofs.Common.{◌≡◌, ◌≤◌, ℕ, Bool, true, false, sym, subst, arith}
use Rattle.sqlx_pool_core.specs.declared.outside.PoolConnectionMetadata.{PoolConnectionMetadata}
use Rattle.sqlx_pool_core.specs.declared.idle_check.Check.{Check}
use Rattle.sqlx_pool_core.specs.declared.idle_check.Check.TheVariants.{Pass, Close, CloseHard}
use Rattle.sqlx_pool_core.specs.Calls.{Call, ping, after_release}
use Rattle.sqlx_pool_core.specs.Giving.{Releases, PingsIf, Returns}

trans : (a b c : ℕ) → a ≤ b → b ≤ c → a ≤ c
trans a b c h k = omega arith

same : (n : ℕ) → n ≤ n
same n = omega arith

module _ {C O X : Type 0} (does : Call C O → X → X → Type 0) (depth : X → C → ℕ) (count : X → ℕ) (more : (c : Call C O) (old new : X) → does c old new → count old ≤ count new) where
  kept : (old new : X) → new ≡ old → count old ≤ count new
  kept old new e = subst (λ (x : X). count old ≤ count x) (sym e) (same (count old))

  releases-more : (hook : Bool) (meta : PoolConnectionMetadata) (raw now : C) (check : Check) (old new : X) → Releases does depth hook meta raw now check old new → count old ≤ count new
  releases-more true meta raw now check old new r = more (after_release raw meta r.0 now) old new r.1
  releases-more false meta raw now check old new r = kept old new r.2

  pings-more : (so_far : Check) (raw now : C) (check : Check) (old new : X) → PingsIf does depth so_far raw now check old new → count old ≤ count new
  pings-more Pass raw now check old new p = more (ping raw p.0 now) old new p.1
  pings-more Close raw now check old new p = kept old new p.2
  pings-more CloseHard raw now check old new p = kept old new p.2

  pub returns-more : (hook : Bool) (meta : PoolConnectionMetadata) (raw now : C) (check : Check) (old new : X) → Returns does depth hook meta raw now check old new → count old ≤ count new
  returns-more hook meta raw now check old new r =
      trans (count old) (count r.between) (count new) (releases-more hook meta raw r.released r.so_far old r.between r.releases) (pings-more r.so_far r.released now check r.between new r.pings)
