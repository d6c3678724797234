-- What reaping is: idle connections that leave one by one.
use Rattle.std.specs.Prelude.{◌≡◌, ℕ, ◌+◌, Bool, true, false, List, [], ◌∷◌, ◌++◌, length, map, filter, if◌then◌else◌}
use Rattle.sqlx_pool_marks.specs.declared.mark.Mark.{Mark}
use Rattle.sqlx_pool_marks.specs.declared.mark.Mark.TheVariants.{Reaped}
use Rattle.sqlx_pool_lists.specs.declared.steps.Idle.{Idle}
use Rattle.sqlx_pool_lists.specs.Core.{Core}
use Rattle.sqlx_pool_lists.specs.MaintenanceSteps.{is_reaped_at}
use Rattle.mem_store.specs.Store.{Link}
use Rattle.sqlx_savepoints.specs.Changes.{History}
use Rattle.sqlx_play.specs.stage.Scene.{Scene}
use Rattle.sqlx_script_rules.specs.ScriptLevels.{gone_by}
use Rattle.sqlx_play.specs.stage.StageAdvance.{IsAt, StageAdvance}
use Rattle.sqlx_play.specs.events.KeepsMinimum.{core_passes}

-- the idle connections that are to be reaped at m
abbrev pub reapable : ℕ → Core Link → List (Idle Link)
reapable m core = if core_passes core then filter (is_reaped_at core.options m) core.idle else []

-- the mark of one that was
abbrev pub reap_mark : Idle Link → Mark
reap_mark i = Reaped i.lent.id

-- These were reaped at m, in their order.
pub record Reaps (old new : Scene) (m : ℕ) (taken : List (Idle Link)) : Type 0 where
  pub beyond : reapable m old.core ≡ taken ++ reapable m new.core
  pub comes : (marks : List Mark) (past : History) → IsAt old marks past → StageAdvance old new marks (map reap_mark taken) (gone_by (map reap_mark taken) past)
  pub next : new.core.next_conn ≡ old.core.next_conn
  pub fewer : length old.core.idle ≡ length taken + length new.core.idle

-- one was reaped, or there was none to reap
abbrev pub ReapsOne : Scene → Scene → ℕ → Bool → Type 0
ReapsOne old new m true = (i : Idle Link) × Reaps old new m (i ∷ [])
ReapsOne old new m false = Reaps old new m [] × (reapable m new.core ≡ [])

-- all that were to be reaped were, so many
abbrev pub ReapsAll : Scene → Scene → ℕ → ℕ → Type 0
ReapsAll old new m count = (taken : List (Idle Link)) × Reaps old new m taken × (reapable m new.core ≡ []) × (count ≡ length taken)
