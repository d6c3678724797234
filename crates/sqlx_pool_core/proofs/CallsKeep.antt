-- What no call of the outside changes, over the chains of calls that a test, a try, a poll and a keeping of the minimum are.
use Rattle.std.proofs.Common.{ℕ, ◌≤◌, List, [], ◌∷◌}
use Rattle.sqlx_pool_marks.specs.declared.mark.Mark.{Mark}
use Rattle.sqlx_pool_core.specs.declared.idle_check.Opening.{Opening}
use Rattle.sqlx_pool_core.specs.declared.idle_check.Opening.TheVariants as opening
use Rattle.sqlx_pool_lists.specs.declared.steps.Openings.{Openings}
use Rattle.sqlx_pool_lists.specs.declared.steps.Polled.{Polled}
use Rattle.sqlx_pool_lists.specs.declared.steps.Verdict.{Verdict}
use Rattle.sqlx_pool_core.specs.Calls.{Call}
use Rattle.sqlx_pool_lists.specs.Core.{Core}
use Rattle.sqlx_pool_core.specs.Minimum.{filled, Keeps, KeepsMinimum}
use Rattle.sqlx_pool_lists.specs.PollSteps.{after_test}
use Rattle.sqlx_pool_core.specs.Walk.{Next, Test, Connect, Answer, then_by, judges, Goes, Polls}
use Rattle.sqlx_pool_core.proofs.CheckKeeps.{kept, risen, same, tests-keep, tries-keep}

-- a fact that no call ends, over a whole poll and the minimum
module _ {C O X : Type 0} (does : Call C O → X → X → Type 0) (depth : X → C → ℕ) (P : X → Type 0) (step : (c : Call C O) (old new : X) → does c old new → P old → P new) where
  -- ---- a poll

  goes-keep : (options : O) (k t m : ℕ) (verdicts : List (Verdict C)) (next : Next C) (core new : Core C) (old now : X) (r : Polled C) (made : List Mark) → P old
      → Goes does depth options k t m verdicts next core new old now r made → P now
  goes-keep options k t m [] (Answer a) core new old now r made h g = kept does depth P step old now g.3 h
  goes-keep options k t m [] Connect core new old now r made h g = tries-keep does depth P step core.options.after_connect options g.opening old now h g.tries
  goes-keep options k t m [] (Test i) core new old now r made h g = absurd g
  goes-keep options k t m (v ∷ vs) (Test i) core new old now r made h g =
      goes-keep options k t m vs (then_by (judges k t core i v)) (after_test k t (judges k t core i v) core) new g.0 now r g.1.0 (tests-keep does depth P step core.options m i v old g.0 h g.1.1.0) g.1.1.2
  goes-keep options k t m (v ∷ vs) (Answer a) core new old now r made h g = absurd g
  goes-keep options k t m (v ∷ vs) Connect core new old now r made h g = absurd g

  pub polls-keep : (options : O) (k t m : ℕ) (core new : Core C) (old now : X) (r : Polled C) → P old → Polls does depth options k t m core new old now r → P now
  polls-keep options k t m core new old now r h p = goes-keep options k t m p.verdicts _ _ new old now r p.later h p.goes

  -- ---- the minimum

  places-keep : (options : O) (now : ℕ) (tries : List (Opening C)) (core new : Core C) (old out : X) → P old → Keeps does depth options now tries core new old out → P out
  places-keep options now [] core new old out h k = kept does depth P step old out k.2 h
  places-keep options now (opening.Opened raw ∷ tries) core new old out h k =
      places-keep options now tries (filled now (opening.Opened raw) core) new k.1.0 out (tries-keep does depth P step core.options.after_connect options (opening.Opened raw) old k.1.0 h k.1.1.0) k.1.1.2
  places-keep options now (opening.Rejected ∷ []) core new old out h k = tries-keep does depth P step core.options.after_connect options opening.Rejected old out h k.1
  places-keep options now (opening.Transient ∷ []) core new old out h k = tries-keep does depth P step core.options.after_connect options opening.Transient old out h k.1
  places-keep options now (opening.Failed e ∷ []) core new old out h k = tries-keep does depth P step core.options.after_connect options (opening.Failed e) old out h k.1
  places-keep options now (opening.Rejected ∷ o ∷ tries) core new old out h k = absurd k
  places-keep options now (opening.Transient ∷ o ∷ tries) core new old out h k = absurd k
  places-keep options now (opening.Failed e ∷ o ∷ tries) core new old out h k = absurd k

  pub minimum-keeps : (options : O) (now : ℕ) (core new : Core C) (old out : X) (r : Openings) → P old → KeepsMinimum does depth options now core new old out r → P out
  minimum-keeps options now core new old out r h k = places-keep options now k.tries core new old out h k.keeps

-- ---- counts

module _ {C O X : Type 0} (does : Call C O → X → X → Type 0) (depth : X → C → ℕ) (count : X → ℕ) (more : (c : Call C O) (old new : X) → does c old new → count old ≤ count new) where
  pub polls-more : (options : O) (k t m : ℕ) (core new : Core C) (old now : X) (r : Polled C) → Polls does depth options k t m core new old now r → count old ≤ count now
  polls-more options k t m core new old now r p = polls-keep does depth (λ x. count old ≤ count x) (risen does depth count more old) options k t m core new old now r (same (count old)) p

  pub minimum-more : (options : O) (now : ℕ) (core new : Core C) (old out : X) (r : Openings) → KeepsMinimum does depth options now core new old out r → count old ≤ count out
  minimum-more options now core new old out r k = minimum-keeps does depth (λ x. count old ≤ count x) (risen does depth count more old) options now core new old out r (same (count old)) k
