-- A whole poll over the lock: what the pool answered at each of its steps, what was asked of the outside between, and
-- what the poll comes to.
use Rattle.std.specs.Prelude.{◌≡◌, ◌⊎◌, ℕ, ⊤, zero, suc, Bool, true, false, MatchBool, List, Option, Some, None}
use mathlib.Core.List.{IsPrefix}
use Rattle.sqlx_text.specs.declared.Moment.{Moment}
use Rattle.sqlx_text.specs.declared.error.Error.TheVariants as error
use Rattle.sqlx_pool_lists.specs.declared.options.PoolOptions.{PoolOptions}
use Rattle.sqlx_pool_lists.specs.declared.steps.AfterConnect.{AfterConnect}
use Rattle.sqlx_pool_lists.specs.declared.steps.AfterConnect.TheVariants as connected
use Rattle.sqlx_pool_lists.specs.declared.steps.AfterTest.{AfterTest}
use Rattle.sqlx_pool_lists.specs.declared.steps.AfterTest.TheVariants as tested
use Rattle.sqlx_pool_lists.specs.declared.steps.Idle.{Idle}
use Rattle.sqlx_pool_lists.specs.declared.steps.Lent.{Lent}
use Rattle.sqlx_pool_lists.specs.declared.steps.Start.{Start}
use Rattle.sqlx_pool_lists.specs.declared.steps.Start.TheVariants as start
use Rattle.sqlx_pool_lists.specs.declared.steps.Tried.{Tried}
use Rattle.sqlx_pool_lists.specs.declared.steps.Tried.TheVariants as tried
use Rattle.sqlx_pool_lists.specs.declared.steps.Verdict.{Verdict}
use Rattle.sqlx_pool_lists.specs.declared.steps.Verdict.TheVariants as verdict
use Rattle.sqlx_pool_core.specs.Calls.{Call}
use Rattle.sqlx_pool_core.specs.Walk.{tried_of}
use Rattle.sqlx_pool_core.specs.declared.idle_check.Check.TheVariants as check
use Rattle.sqlx_pool_core.specs.declared.idle_check.Opening.{Opening}
use Rattle.sqlx_pool_core.specs.declared.idle_check.Opening.TheVariants as opening
use Rattle.sqlx_pool_parts.specs.Checks.{Closes, TestsFlat, TriesFlat}
use Rattle.sqlx_pool.specs.Calls.{Look, Step}
use Rattle.sqlx_pool.specs.Calls as call
use Rattle.sqlx_pool.specs.Seen.{Sees, SeesStep}
use Rattle.sqlx_pool.specs.declared.acquiring.Polling.{Polling}
use Rattle.sqlx_pool.specs.declared.acquiring.Polling.TheVariants as polling
use Rattle.sqlx_pool.specs.declared.stage.Stage.{Stage}
use Rattle.sqlx_pool.specs.declared.stage.Stage.TheVariants as stage
use Rattle.sqlx_pool.specs.declared.stage.Why.TheVariants as why

-- What the pool answered at a step of a poll: when it began; when it lent at once, or was told of a connection that
-- wants no test; when it was told what a test, or a try to open, came to.
pub data Told (C : Type 0) : Type 0 where
  Began : Start C → Told C
  Served : Lent C → Told C
  Untested : Lent C → AfterTest C → Told C
  ToldTest : Verdict C → AfterTest C → Told C
  ToldTry : Opening C → AfterConnect C → Told C

module _ {C : Type 0} where
  -- ---- what comes next

  -- the idle connection that is to be tested next, if one is
  abbrev pub next_test : Told C → Option (Idle C)
  next_test (Began (start.Test i)) = Some i
  next_test (Untested lent (tested.Test i)) = Some i
  next_test (ToldTest verdict (tested.Test i)) = Some i
  next_test other = None

  -- a connection is to be opened next
  abbrev pub opens_next : Told C → Bool
  opens_next (Began start.Connect) = true
  opens_next (Untested lent tested.Connect) = true
  opens_next (ToldTest verdict tested.Connect) = true
  opens_next other = false

  -- ---- how far the poll then is

  -- a stage, without the share of what it lent
  abbrev pub alone : {H : Type 0} → Stage C H → Stage C (⊤)
  alone (stage.Lent lent share) = stage.Lent lent tt
  alone (stage.Pending why) = stage.Pending why
  alone (stage.Failed error) = stage.Failed error
  alone (stage.Left raw hard error) = stage.Left raw hard error
  alone (stage.Test i m) = stage.Test i m
  alone stage.Connect = stage.Connect

  -- by the answer at the beginning, of a poll that tests at m
  abbrev pub begun_stage : Moment → Start C → Stage C (⊤)
  begun_stage m start.NotHeld = stage.Failed error.NotHeld
  begun_stage m start.Closed = stage.Failed error.PoolClosed
  begun_stage m start.TimedOut = stage.Failed error.PoolTimedOut
  begun_stage m start.Exhausted = stage.Failed error.Exhausted
  begun_stage m start.Waiting = stage.Pending why.Waiting
  begun_stage m (start.Backoff until) = stage.Pending (why.Backoff until)
  begun_stage m (start.Test i) = stage.Test i m
  begun_stage m start.Connect = stage.Connect

  -- what is in no pool is closed: gently behind a close, and hard where there is no such ticket
  abbrev pub closed_stage : Option C → Stage C (⊤)
  closed_stage (Some raw) = stage.Left raw false error.PoolClosed
  closed_stage None = stage.Failed error.PoolClosed

  -- by the answer to a test
  abbrev pub tested_stage : Moment → AfterTest C → Stage C (⊤)
  tested_stage m (tested.Ready lent) = stage.Lent lent tt
  tested_stage m (tested.Test i) = stage.Test i m
  tested_stage m tested.Connect = stage.Connect
  tested_stage m (tested.Closed raw) = closed_stage raw
  tested_stage m (tested.NotHeld (verdict.Accepted lent)) = stage.Left lent.raw true error.NotHeld
  tested_stage m (tested.NotHeld (verdict.Refused c)) = stage.Failed error.NotHeld

  -- a try that was refused for good ends the ticket with its error; no other try ends it so
  abbrev pub refused_stage : Opening C → Stage C (⊤)
  refused_stage (opening.Failed error) = stage.Failed error
  refused_stage other = stage.Failed error.NotHeld

  -- by the answer to a try
  abbrev pub tried_stage : Opening C → AfterConnect C → Stage C (⊤)
  tried_stage opening (connected.Ready lent) = stage.Lent lent tt
  tried_stage opening (connected.Backoff until) = stage.Pending (why.Backoff until)
  tried_stage opening (connected.Closed raw) = closed_stage raw
  tried_stage opening (connected.NotHeld (tried.Opened raw)) = stage.Left raw true error.NotHeld
  tried_stage opening (connected.NotHeld other) = stage.Failed error.NotHeld
  tried_stage opening connected.Ended = refused_stage opening

  -- by what the pool answered last
  abbrev pub stage_by : Moment → Told C → Stage C (⊤)
  stage_by m (Began answer) = begun_stage m answer
  stage_by m (Served lent) = stage.Lent lent tt
  stage_by m (Untested lent answer) = tested_stage m answer
  stage_by m (ToldTest verdict answer) = tested_stage m answer
  stage_by m (ToldTry opening answer) = tried_stage opening answer

  -- a test beyond the tries of a poll isn't made, and its connection is closed hard; the pool asks for none
  abbrev pub without_test : Stage C (⊤) → Stage C (⊤)
  without_test (stage.Test i m) = stage.Left i.lent.raw true error.NotHeld
  without_test other = other

-- Where a poll stands: what the pool answered last, what the caller's front has seen, and the outside.
pub record Point (C S X : Type 0) : Type 0 where
  pub told : Told C
  pub seen : List S
  pub out : X

-- P of an idle connection that is to be tested; and Q, where there is none
abbrev pub IfTested : {C : Type 0} → Option (Idle C) → (Idle C → Type 0) → Type 0 → Type 0
IfTested (Some i) P Q = P i
IfTested None P Q = Q

-- the test of an idle connection asks nothing of the outside
abbrev pub TestsNothing : PoolOptions → Type 0
TestsNothing options = (options.test_before_acquire ≡ false) × (options.before_acquire ≡ false)

-- of the pool's steps: what holds of each state, what a step does, and which pool it is
module _ {C N S : Type 0} (stands : S → Type 0) (steps : Step C N → S → S → Type 0) (name : N) (client ticket : ℕ) where
  -- the pool was told that an idle connection, to be tested at m, is accepted, and the poll is so far
  abbrev pub LendsUntested : {H : Type 0} → Idle C → Moment → List S → List S → Stage C H → Type 0
  LendsUntested i m seen seen_now came = (answer : AfterTest C) × (alone came ≡ tested_stage m answer) × SeesStep stands seen seen_now (steps (call.EndTest name client ticket (verdict.Accepted i.lent) answer))

  module _ (now : Moment) where
    -- the pool's step at which it answered so, m being its moment; without a test only where the options ask for none
    abbrev pub Tells : PoolOptions → Moment → Told C → S → S → Type 0
    Tells options m (Began answer) before after = steps (call.Begin name client ticket now m answer) before after
    Tells options m (Served lent) before after = TestsNothing options × steps (call.ServePolled name client ticket now (Some lent)) before after
    Tells options m (Untested lent answer) before after = TestsNothing options × steps (call.EndTest name client ticket (verdict.Accepted lent) answer) before after
    Tells options m (ToldTest verdict answer) before after = steps (call.EndTest name client ticket verdict answer) before after
    Tells options m (ToldTry opening answer) before after = steps (call.EndTry name client ticket now (tried_of opening) answer) before after

    -- a poll began, and is so far
    abbrev pub BeginsAs : {H : Type 0} → PoolOptions → List S → List S → Stage C H → Type 0
    BeginsAs options seen seen_now stage = (m : Moment) × (told : Told C) × (alone stage ≡ stage_by m told) × SeesStep stands seen seen_now (Tells options m told)

    -- the pool was told of a try, and the poll is so far
    abbrev pub TellsTry : {H : Type 0} → Opening C → Tried C → List S → Stage C H → List S → Type 0
    TellsTry came_to told seen came seen_now = (answer : AfterConnect C) × (alone came ≡ tried_stage came_to answer) × SeesStep stands seen seen_now (steps (call.EndTry name client ticket now told answer))

module _ {C O X : Type 0} (does : Call C O → X → X → Type 0) (depth : X → C → ℕ) (levels : C → ℕ) where
  -- what the poll answers at its last stage; what is left is closed
  abbrev pub Ends : {T P : Type 0} → (T → Lent C) → Stage C (⊤) → Polling T P → X → X → Type 0
  Ends shows (stage.Lent lent share) (polling.Ready conn) old new = (shows conn ≡ lent) × (new ≡ old)
  Ends shows (stage.Pending reason) (polling.Pending again why) old new = (why ≡ reason) × (new ≡ old)
  Ends shows (stage.Failed error) (polling.Failed e) old new = (e ≡ error) × (new ≡ old)
  Ends shows (stage.Left raw true error) (polling.Failed e) old new = (e ≡ error) × Closes does check.CloseHard raw old new
  Ends shows (stage.Left raw false error) (polling.Failed e) old new = (e ≡ error) × Closes does check.Close raw old new
  Ends shows other result old new = ⊥

  -- a try to open a connection, by the options that the pool was seen to have; or memory was wanting before it
  abbrev pub TriesOrLacks : {N S L : Type 0} → (S → Type 0) → (Look N L O → S → Type 0) → Bool → Opening C → List S → List S → X → X → Type 0
  TriesOrLacks stands tells hook came seen looked old new =
      ((options : O) × Sees stands seen looked (tells (call.Connects options)) × TriesFlat does depth levels hook options came old new) ⊎ ((came ≡ opening.Failed error.OutOfMemory) × IsPrefix seen looked × (new ≡ old))

  module _ {N S : Type 0} (stands : S → Type 0) (steps : Step C N → S → S → Type 0) (name : N) (client ticket : ℕ) where
    -- An idle connection was tested at m, and the pool told.
    pub record TestsOne (options : PoolOptions) (m : Moment) (i : Idle C) (p q : Point C S X) : Type 0 where
      pub verdict : Verdict C
      pub answer : AfterTest C
      pub tests : TestsFlat does depth levels options m.0 i verdict p.out q.out
      pub tells : SeesStep stands p.seen q.seen (steps (call.EndTest name client ticket verdict answer))
      pub told : q.told ≡ ToldTest verdict answer

    -- Idle connections were tested one after another, as the pool asked for it: at most so many.
    unfoldable pub Tests : ℕ → PoolOptions → Moment → Point C S X → Point C S X → Type 0
    Tests zero options m p q = q ≡ p
    Tests (suc left) options m p q = IfTested (next_test p.told) (λ i. (r : Point C S X) × TestsOne options m i p r × Tests left options m r q) (q ≡ p)

    -- the test of an idle connection at m was made and the pool told, and the poll is so far
    abbrev pub TestsTo : {H : Type 0} → PoolOptions → Moment → Idle C → List S → X → Stage C H → List S → X → Type 0
    TestsTo options m i seen old came seen_now new = (verdict : Verdict C) × (answer : AfterTest C) × (alone came ≡ tested_stage m answer) × TestsFlat does depth levels options m.0 i verdict old new × SeesStep stands seen seen_now (steps (call.EndTest name client ticket verdict answer))

    -- from each point at which the poll is so far, tests bring it to another
    abbrev pub TestsFrom : {H : Type 0} → ℕ → PoolOptions → Stage C H → List S → X → Stage C H → List S → X → Type 0
    TestsFrom left options stage seen old came seen_now new = (m : Moment) → (told : Told C) → alone stage ≡ stage_by m told →
        (last : Told C) × (alone came ≡ without_test (stage_by m last)) × Tests left options m (record { told = told; seen = seen; out = old }) (record { told = last; seen = seen_now; out = new })

    module _ {L : Type 0} (tells : Look N L O → S → Type 0) (now : Moment) where
      -- A try to open a connection was made, and the pool told.
      pub record OpensOne (options : PoolOptions) (p q : Point C S X) : Type 0 where
        pub opening : Opening C
        pub answer : AfterConnect C
        pub looked : List S
        pub tries : TriesOrLacks stands tells options.after_connect opening p.seen looked p.out q.out
        pub ends : SeesStep stands looked q.seen (steps (call.EndTry name client ticket now (tried_of opening) answer))
        pub told : q.told ≡ ToldTry opening answer

      -- a try was made, where the pool asked for it
      abbrev pub Opens : PoolOptions → Point C S X → Point C S X → Type 0
      Opens options p q = MatchBool (opens_next p.told) (OpensOne options p q) (q ≡ p)

      -- How a poll goes on from where it stands, testing at m: idle connections are tested and then one is opened, each as
      -- the pool asks for it, and it answers what the pool said last.
      pub record GoesOn {T P : Type 0} (options : PoolOptions) (shows : T → Lent C) (m : Moment) (begun : Point C S X) (seen : List S) (result : Polling T P) (new : X) : Type 0 where
        pub tried_for : Point C S X
        pub last : Point C S X
        pub tests : Tests options.idle_tries options m begun tried_for
        pub opens : Opens options tried_for last
        pub sees : last.seen ≡ seen
        pub ends : Ends shows (without_test (stage_by m last.told)) result last.out new

      -- A poll: it began, and went on.
      pub record Polls {T P : Type 0} (options : PoolOptions) (shows : T → Lent C) (seen seen_now : List S) (result : Polling T P) (old new : X) : Type 0 where
        pub moment : Moment
        pub begun : Told C
        pub seen_then : List S
        pub begins : SeesStep stands seen seen_then (Tells stands steps name client ticket now options moment begun)
        pub goes : GoesOn options shows moment (record { told = begun; seen = seen_then; out = old }) seen_now result new

      -- it polled so, by a front that only saw this before
      abbrev pub PollsUnseen : {T P : Type 0} → PoolOptions → (T → Lent C) → List S → Polling T P → X → X → Type 0
      PollsUnseen options shows seen result old new = (seen_now : List S) × Polls options shows seen seen_now result old new

      -- from each such point a try brings it to another, or none is asked for
      abbrev pub OpensFrom : {H : Type 0} → PoolOptions → Stage C H → List S → X → Stage C H → List S → X → Type 0
      OpensFrom options stage seen old came seen_now new = (m : Moment) → (told : Told C) → alone stage ≡ without_test (stage_by m told) →
          (last : Told C) × (alone came ≡ without_test (stage_by m last)) × Opens options (record { told = told; seen = seen; out = old }) (record { told = last; seen = seen_now; out = new })

      -- from each such point it goes on to its answer
      abbrev pub GoesFrom : {H T P : Type 0} → PoolOptions → (T → Lent C) → Stage C H → List S → X → List S → Polling T P → X → Type 0
      GoesFrom options shows stage seen old seen_now result new = (m : Moment) → (told : Told C) → alone stage ≡ stage_by m told →
          GoesOn options shows m (record { told = told; seen = seen; out = old }) seen_now result new
