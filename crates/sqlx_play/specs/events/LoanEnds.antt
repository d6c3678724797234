-- What it is that a connection of a client's leaves, before the minimum is kept.
use Rattle.std.specs.Prelude.{◌≡◌, ℕ, Bool, if◌then◌else◌, List, [], ◌∷◌}
use Rattle.sqlx_pool_marks.specs.declared.mark.Mark.{Mark}
use Rattle.sqlx_pool_marks.specs.Marks.{owner_of}
use Rattle.sqlx_savepoints.specs.Changes.{leaves, History}
use Rattle.sqlx_play.specs.stage.Scene.{Scene}
use Rattle.sqlx_script_rules.specs.ScriptLevels.{owns}
use Rattle.sqlx_play.specs.stage.StageAdvance.{IsAt, StageAdvance}

-- Where the client k owns c, it left by this mark, and its link was closed.
abbrev pub LoanEnds : Scene → Scene → Mark → ℕ → ℕ → Bool → Type 0
LoanEnds old new x k c gone = (marks : List Mark) (past : History) → IsAt old marks past
    → (gone ≡ owns k (owner_of c marks)) × StageAdvance old new marks (if gone then x ∷ [] else []) (if gone then leaves c ∷ past else past)
