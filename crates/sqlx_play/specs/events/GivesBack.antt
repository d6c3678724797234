-- What giving a connection back comes to, before the minimum is kept.
use Rattle.std.specs.Prelude.{◌≡◌, ℕ, ◌==◌, ◌&&◌, ◌||◌, Bool, not, if◌then◌else◌, List, [], ◌∷◌}
use Rattle.sqlx_pool_marks.specs.declared.mark.Mark.{Mark}
use Rattle.sqlx_pool_marks.specs.declared.mark.Mark.TheVariants as mark
use Rattle.sqlx_pool_marks.specs.Marks.{owner_of}
use Rattle.sqlx_script.specs.declared.answers.GiveAnswers.{GiveAnswers}
use Rattle.sqlx_script.specs.declared.pool_line.PoolLine.{PoolLine}
use Rattle.sqlx_script.specs.Built.{accepts}
use Rattle.sqlx_savepoints.specs.Changes.{History}
use Rattle.sqlx_play.specs.declared.stage.loans.give.Returned.{Returned}
use Rattle.sqlx_play.specs.declared.stage.loans.give.Returned.TheVariants as word
use Rattle.sqlx_play.specs.stage.Scene.{Scene}
use Rattle.sqlx_script_rules.specs.ScriptLevels.{owns, gone_by}
use Rattle.sqlx_script_rules.specs.Answer.{is_kept}
use Rattle.sqlx_play.specs.stage.StageAdvance.{IsAt, StageAdvance}

-- the hook, the connection's depth and the ping let it rest
abbrev pub lets_rest : PoolLine → GiveAnswers → ℕ → Bool
lets_rest pool answers depth = (not pool.after_release || accepts answers.after_release) && ((depth == 0) && answers.ping)

-- what becomes of a connection that a client gives back
abbrev pub returned : PoolLine → GiveAnswers → ℕ → ℕ → ℕ → List Mark → History → Returned
returned pool answers m k c marks past = if owns k (owner_of c marks) then (if is_kept pool answers marks past m c then word.Kept else word.Closed) else word.NotHeld

-- the mark of it
abbrev pub return_marks : ℕ → ℕ → Returned → List Mark
return_marks c m word.Kept = mark.Kept c m ∷ []
return_marks c m word.Closed = mark.Closed c ∷ []
return_marks c m word.NotHeld = []

-- The client k gave c back at m, and this became of it.
abbrev pub GivesBack : Scene → Scene → GiveAnswers → ℕ → ℕ → ℕ → Returned → Type 0
GivesBack old new answers m k c r = (marks : List Mark) (past : History) → IsAt old marks past
    → (r ≡ returned old.pool answers m k c marks past) × StageAdvance old new marks (return_marks c m r) (gone_by (return_marks c m r) past)
