-- What opening connections for the minimum is.
use Rattle.std.specs.Prelude.{◌≡◌, ℕ, ◌+◌, ◌&&◌, Bool, if◌then◌else◌, nat_lt, min, List}
use Rattle.sqlx_pool_marks.specs.declared.mark.Mark.{Mark}
use Rattle.sqlx_pool_lists.specs.declared.options.PoolOptions.{PoolOptions}
use Rattle.sqlx_pool_lists.specs.Core.{Core, waiting, free, size}
use Rattle.sqlx_pool_marks.specs.EventTable.{may_pass}
use Rattle.sqlx_pool_marks.specs.Marks.{next_conn}
use Rattle.mem_store.specs.Store.{Link}
use Rattle.sqlx_savepoints.specs.Changes.{History}
use Rattle.sqlx_play.specs.stage.Scene.{Scene}
use Rattle.sqlx_script_rules.specs.ScriptMarks.{openings}
use Rattle.sqlx_script_rules.specs.Answer.{opened_for_minimum}
use Rattle.sqlx_play.specs.stage.StageAdvance.{IsAt, StageAdvance}

-- the core may open past the line
abbrev pub core_passes : Core Link → Bool
core_passes core = may_pass core.shut (waiting core.tickets) (free core)

-- so many connections a core is kept up to
abbrev pub least : PoolOptions → ℕ
least options = min options.min_connections options.max_connections

-- one where it was opened, else none
abbrev pub one_if : Bool → ℕ
one_if opened = if opened then 1 else 0

-- The stage opened a connection at m, where it had too few.
pub record OpensOne (old new : Scene) (m : ℕ) (opened : Bool) : Type 0 where
  pub answer : opened ≡ (core_passes old.core && nat_lt (size old.core) (least old.core.options))
  pub comes : (marks : List Mark) (past : History) → IsAt old marks past → StageAdvance old new marks (openings (one_if opened) (next_conn marks) m) past
  pub passes : core_passes new.core ≡ core_passes old.core
  pub sized : size new.core ≡ size old.core + one_if opened
  pub numbered : new.core.next_conn ≡ old.core.next_conn + one_if opened
  pub options : new.core.options ≡ old.core.options

-- The stage opened n connections at m, as many as are opened for the minimum where so many connects succeed.
abbrev pub KeepsMinimum : Scene → Scene → ℕ → ℕ → ℕ → Type 0
KeepsMinimum old new m opens n = (marks : List Mark) (past : History) → IsAt old marks past → (n ≡ opened_for_minimum old.pool marks opens) × StageAdvance old new marks (openings n (next_conn marks) m) past
