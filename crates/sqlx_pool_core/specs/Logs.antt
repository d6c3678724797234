-- The two phrases that stand in most clauses.
use Rattle.std.specs.Prelude.{ℕ, max, List}
use Rattle.sqlx_text.specs.declared.Moment.{Moment}
use Rattle.sqlx_pool_marks.specs.declared.mark.Mark.{Mark}
use Rattle.sqlx_pool_lists.specs.Core.{Core}
use Rattle.sqlx_pool_lists.specs.StandsFor.{StandsFor}
use Rattle.sqlx_pool_lists.specs.Makes.{Makes}

-- Whatever marks the core stood for, it stands for them with these behind, which may follow them.
abbrev pub Logs : {C : Type 0} → Core C → List Mark → Core C → Type 0
Logs old made new = (marks : List Mark) → StandsFor old marks → Makes old.options.max_connections marks made new

-- the moment that a step goes by: one below the last moment counts as the last one
abbrev pub moment_of : {C : Type 0} → Core C → Moment → ℕ
moment_of core now = max core.last now.0
