-- The minimum is kept behind a mark of another kind.
use Rattle.std.proofs.Common.{◌≡◌, ℕ, List, ◌++◌, ap, subst, ◌∙◌}
use Rattle.sqlx_pool_marks.specs.declared.mark.Mark.{Mark}
use Rattle.sqlx_pool_marks.specs.Marks.{next_conn}
use Rattle.sqlx_script.specs.declared.pool_line.PoolLine.{PoolLine}
use Rattle.sqlx_savepoints.specs.Changes.{History}
use Rattle.sqlx_play.specs.stage.Scene.{Scene}
use Rattle.sqlx_script_rules.specs.ScriptMarks.{openings}
use Rattle.sqlx_script_rules.specs.Answer.{opened_for_minimum}
use Rattle.sqlx_play.specs.stage.StageAdvance.{IsAt, StageAdvance}
use Rattle.sqlx_play.specs.events.KeepsMinimum.{KeepsMinimum}
use Rattle.sqlx_play.proofs.events.StageAdvanceLemmas.{at-next, comes-then}

pub fill-behind : (old mid new : Scene) (marks made : List Mark) (past past' : History) (m opens n : ℕ) → next_conn (marks ++ made) ≡ next_conn marks → IsAt old marks past → StageAdvance old mid marks made past' → KeepsMinimum mid new m opens n
    → (n ≡ opened_for_minimum old.pool (marks ++ made) opens) × StageAdvance old new marks (made ++ openings n (next_conn marks) m) past'
fill-behind old mid new marks made past past' m opens n same at one fills =
    let two = fills (marks ++ made) past' (at-next old mid marks made past past' at one) in (
      two.0 ∙ ap (λ (p : PoolLine). opened_for_minimum p (marks ++ made) opens) one.pool,
      comes-then old mid new marks made (openings n (next_conn marks) m) past' past' one (subst (λ (k : ℕ). StageAdvance mid new (marks ++ made) (openings n k m) past') same two.1),
    )
