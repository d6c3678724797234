-- What a stage of a poll says of the test and the try that come next, as the pool asked for them.
use Rattle.std.proofs.Common.{◌≡◌, Bool, true, false, Option, Some, None, refl}
use Rattle.std.specs.Bool.{⊤}
use Rattle.sqlx_text.specs.declared.Moment.{Moment}
use Rattle.sqlx_pool_lists.specs.declared.steps.AfterConnect.{AfterConnect}
use Rattle.sqlx_pool_lists.specs.declared.steps.AfterConnect.TheVariants as connected
use Rattle.sqlx_pool_lists.specs.declared.steps.AfterTest.{AfterTest}
use Rattle.sqlx_pool_lists.specs.declared.steps.AfterTest.TheVariants as tested
use Rattle.sqlx_pool_lists.specs.declared.steps.Idle.{Idle}
use Rattle.sqlx_pool_lists.specs.declared.steps.Lent.{Lent}
use Rattle.sqlx_pool_lists.specs.declared.steps.Start.{Start}
use Rattle.sqlx_pool_lists.specs.declared.steps.Start.TheVariants as start
use Rattle.sqlx_pool_lists.specs.declared.steps.Tried.TheVariants as tried
use Rattle.sqlx_pool_lists.specs.declared.steps.Verdict.{Verdict}
use Rattle.sqlx_pool_lists.specs.declared.steps.Verdict.TheVariants as verdict
use Rattle.sqlx_pool_core.specs.declared.idle_check.Opening.{Opening}
use Rattle.sqlx_pool_core.specs.declared.idle_check.Opening.TheVariants as opening
use Rattle.sqlx_pool.specs.PollChain.{Told, Began, Served, Untested, ToldTest, ToldTry, next_test, opens_next, closed_stage, refused_stage, begun_stage, tested_stage, tried_stage, stage_by, without_test}
use Rattle.sqlx_pool.specs.declared.stage.Stage.{Stage}
use Rattle.sqlx_pool.specs.declared.stage.Stage.TheVariants as stage

module _ {C : Type 0} where
  -- what a stage says of the test and the try that come next
  abbrev pub test_in : Stage C (⊤) → Option (Idle C)
  test_in (stage.Test i m) = Some i
  test_in other = None

  abbrev pub connect_in : Stage C (⊤) → Bool
  connect_in stage.Connect = true
  connect_in other = false

  closed-test : (raw : Option C) → test_in (closed_stage raw) ≡ None
  closed-test (Some raw) = refl
  closed-test None = refl

  closed-connect : (raw : Option C) → connect_in (without_test (closed_stage raw)) ≡ false
  closed-connect (Some raw) = refl
  closed-connect None = refl

  refused-test : (o : Opening C) → test_in (refused_stage o) ≡ None
  refused-test (opening.Opened raw) = refl
  refused-test opening.Rejected = refl
  refused-test opening.Transient = refl
  refused-test (opening.Failed e) = refl

  refused-connect : (o : Opening C) → connect_in (without_test (refused_stage o)) ≡ false
  refused-connect (opening.Opened raw) = refl
  refused-connect opening.Rejected = refl
  refused-connect opening.Transient = refl
  refused-connect (opening.Failed e) = refl

  begun-test : (m : Moment) (a : Start C) → test_in (begun_stage m a) ≡ next_test (Began a)
  begun-test m start.NotHeld = refl
  begun-test m start.Closed = refl
  begun-test m start.TimedOut = refl
  begun-test m start.Exhausted = refl
  begun-test m start.Waiting = refl
  begun-test m (start.Backoff u) = refl
  begun-test m (start.Test i) = refl
  begun-test m start.Connect = refl

  begun-connect : (m : Moment) (a : Start C) → connect_in (without_test (begun_stage m a)) ≡ opens_next (Began a)
  begun-connect m start.NotHeld = refl
  begun-connect m start.Closed = refl
  begun-connect m start.TimedOut = refl
  begun-connect m start.Exhausted = refl
  begun-connect m start.Waiting = refl
  begun-connect m (start.Backoff u) = refl
  begun-connect m (start.Test i) = refl
  begun-connect m start.Connect = refl

  untested-test : (m : Moment) (l : Lent C) (a : AfterTest C) → test_in (tested_stage m a) ≡ next_test (Untested l a)
  untested-test m l (tested.Ready lent) = refl
  untested-test m l (tested.Test i) = refl
  untested-test m l tested.Connect = refl
  untested-test m l (tested.Closed raw) = closed-test raw
  untested-test m l (tested.NotHeld (verdict.Accepted lent)) = refl
  untested-test m l (tested.NotHeld (verdict.Refused c)) = refl

  untested-connect : (m : Moment) (l : Lent C) (a : AfterTest C) → connect_in (without_test (tested_stage m a)) ≡ opens_next (Untested l a)
  untested-connect m l (tested.Ready lent) = refl
  untested-connect m l (tested.Test i) = refl
  untested-connect m l tested.Connect = refl
  untested-connect m l (tested.Closed raw) = closed-connect raw
  untested-connect m l (tested.NotHeld (verdict.Accepted lent)) = refl
  untested-connect m l (tested.NotHeld (verdict.Refused c)) = refl

  tested-test : (m : Moment) (v : Verdict C) (a : AfterTest C) → test_in (tested_stage m a) ≡ next_test (ToldTest v a)
  tested-test m v (tested.Ready lent) = refl
  tested-test m v (tested.Test i) = refl
  tested-test m v tested.Connect = refl
  tested-test m v (tested.Closed raw) = closed-test raw
  tested-test m v (tested.NotHeld (verdict.Accepted lent)) = refl
  tested-test m v (tested.NotHeld (verdict.Refused c)) = refl

  tested-connect : (m : Moment) (v : Verdict C) (a : AfterTest C) → connect_in (without_test (tested_stage m a)) ≡ opens_next (ToldTest v a)
  tested-connect m v (tested.Ready lent) = refl
  tested-connect m v (tested.Test i) = refl
  tested-connect m v tested.Connect = refl
  tested-connect m v (tested.Closed raw) = closed-connect raw
  tested-connect m v (tested.NotHeld (verdict.Accepted lent)) = refl
  tested-connect m v (tested.NotHeld (verdict.Refused c)) = refl

  tried-test : (o : Opening C) (a : AfterConnect C) → test_in (tried_stage o a) ≡ next_test (ToldTry o a)
  tried-test o (connected.Ready lent) = refl
  tried-test o (connected.Backoff u) = refl
  tried-test o (connected.Closed raw) = closed-test raw
  tried-test o (connected.NotHeld (tried.Opened raw)) = refl
  tried-test o (connected.NotHeld tried.Rejected) = refl
  tried-test o (connected.NotHeld tried.Transient) = refl
  tried-test o (connected.NotHeld tried.Fatal) = refl
  tried-test o connected.Ended = refused-test o

  tried-connect : (o : Opening C) (a : AfterConnect C) → connect_in (without_test (tried_stage o a)) ≡ opens_next (ToldTry o a)
  tried-connect o (connected.Ready lent) = refl
  tried-connect o (connected.Backoff u) = refl
  tried-connect o (connected.Closed raw) = closed-connect raw
  tried-connect o (connected.NotHeld (tried.Opened raw)) = refl
  tried-connect o (connected.NotHeld tried.Rejected) = refl
  tried-connect o (connected.NotHeld tried.Transient) = refl
  tried-connect o (connected.NotHeld tried.Fatal) = refl
  tried-connect o connected.Ended = refused-connect o

  -- the moment of a stage that tests; m of another
  abbrev pub moment_in : Moment → Stage C (⊤) → Moment
  moment_in m (stage.Test i at) = at
  moment_in m other = m

  closed-moment : (m : Moment) (raw : Option C) → moment_in m (closed_stage raw) ≡ m
  closed-moment m (Some raw) = refl
  closed-moment m None = refl

  refused-moment : (m : Moment) (o : Opening C) → moment_in m (refused_stage o) ≡ m
  refused-moment m (opening.Opened raw) = refl
  refused-moment m opening.Rejected = refl
  refused-moment m opening.Transient = refl
  refused-moment m (opening.Failed e) = refl

  begun-moment : (m : Moment) (a : Start C) → moment_in m (begun_stage m a) ≡ m
  begun-moment m start.NotHeld = refl
  begun-moment m start.Closed = refl
  begun-moment m start.TimedOut = refl
  begun-moment m start.Exhausted = refl
  begun-moment m start.Waiting = refl
  begun-moment m (start.Backoff u) = refl
  begun-moment m (start.Test i) = refl
  begun-moment m start.Connect = refl

  tested-moment : (m : Moment) (a : AfterTest C) → moment_in m (tested_stage m a) ≡ m
  tested-moment m (tested.Ready lent) = refl
  tested-moment m (tested.Test i) = refl
  tested-moment m tested.Connect = refl
  tested-moment m (tested.Closed raw) = closed-moment m raw
  tested-moment m (tested.NotHeld (verdict.Accepted lent)) = refl
  tested-moment m (tested.NotHeld (verdict.Refused c)) = refl

  tried-moment : (m : Moment) (o : Opening C) (a : AfterConnect C) → moment_in m (tried_stage o a) ≡ m
  tried-moment m o (connected.Ready lent) = refl
  tried-moment m o (connected.Backoff u) = refl
  tried-moment m o (connected.Closed raw) = closed-moment m raw
  tried-moment m o (connected.NotHeld (tried.Opened raw)) = refl
  tried-moment m o (connected.NotHeld tried.Rejected) = refl
  tried-moment m o (connected.NotHeld tried.Transient) = refl
  tried-moment m o (connected.NotHeld tried.Fatal) = refl
  tried-moment m o connected.Ended = refused-moment m o

  -- it tests at the moment at which the poll began
  pub moment-asked : (m : Moment) (told : Told C) → moment_in m (stage_by m told) ≡ m
  moment-asked m (Began a) = begun-moment m a
  moment-asked m (Served l) = refl
  moment-asked m (Untested l a) = tested-moment m a
  moment-asked m (ToldTest v a) = tested-moment m a
  moment-asked m (ToldTry o a) = tried-moment m o a

  -- a stage that isn't to be tested is as it was
  pub without-none : (s : Stage C (⊤)) → test_in s ≡ None → without_test s ≡ s
  without-none (stage.Lent lent share) e = refl
  without-none (stage.Pending why) e = refl
  without-none (stage.Failed error) e = refl
  without-none (stage.Left raw hard error) e = refl
  without-none (stage.Test i m) e = absurd cc
  without-none stage.Connect e = refl

  -- a stage is to be tested, or opens, exactly where the pool asked for it
  pub test-asked : (m : Moment) (told : Told C) → test_in (stage_by m told) ≡ next_test told
  test-asked m (Began a) = begun-test m a
  test-asked m (Served l) = refl
  test-asked m (Untested l a) = untested-test m l a
  test-asked m (ToldTest v a) = tested-test m v a
  test-asked m (ToldTry o a) = tried-test o a

  pub connect-asked : (m : Moment) (told : Told C) → connect_in (without_test (stage_by m told)) ≡ opens_next told
  connect-asked m (Began a) = begun-connect m a
  connect-asked m (Served l) = refl
  connect-asked m (Untested l a) = untested-connect m l a
  connect-asked m (ToldTest v a) = tested-connect m v a
  connect-asked m (ToldTry o a) = tried-connect o a
