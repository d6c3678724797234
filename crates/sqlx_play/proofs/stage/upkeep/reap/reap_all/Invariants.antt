use Rattle.std.proofs.Common.{◌≡◌, List, length}
use Rattle.sqlx_pool_lists.specs.declared.steps.Idle.{Idle}
use Rattle.mem_store.specs.Store.{Link}
use Rattle.sqlx_play.specs.events.Reaps.{Reaps, reapable}
use Rattle.sqlx_play.specs.stage.EventFrame.{Frame}
use Rattle.sqlx_play.specs.stage.Scene.{scene_of}
use Rattle.sqlx_play.proofs.stage.upkeep.reap.reap_all.Given as goal

-- some were reaped, in their order
abbrev pub invariant-loop-moment : goal.invariant-loop-moment
invariant-loop-moment l = record {
  reaps : (taken : List (Idle Link)) × Reaps (scene_of l.initial.stage) (scene_of l.stage) l.moment.0 taken;
  frame : Frame (scene_of l.initial.stage) (scene_of l.stage) l.moment.0 0;
  runs : l.stage.out.store.runs ≡ l.initial.stage.out.store.runs;
}

abbrev pub decreases-loop-moment : goal.decreases-loop-moment
decreases-loop-moment l = length (reapable l.moment.0 l.stage.core.pool)
