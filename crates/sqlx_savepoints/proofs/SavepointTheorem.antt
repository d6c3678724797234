-- The savepoint theorem, by induction over the steps.
use Rattle.std.proofs.Common.{◌≡◌, List, [], ◌∷◌, length, refl, sym, subst}
use Rattle.sqlx_savepoints.specs.Rows.{Rows, Writes}
use Rattle.sqlx_savepoints.specs.NamedSavepoints.{Entry}
use Rattle.sqlx_savepoints.specs.NestedLevels.{Nested, nested_over}
use Rattle.sqlx_savepoints.specs.Levels.{Step, begins, writes, commits, rolls_back, others_change, IsWithin, StaysWithin, depth_after, nested_step, named_run, nested_run, SeesAlike, LevelsAgree}
use Rattle.sqlx_savepoints.proofs.StepByStep.{Nests, named_of, steps_alike}

-- a step within changes the number of levels as it changes the depth
depth_kept : (rows : Rows) (levels : List Writes) (step : Step) → IsWithin (length levels) step → depth_after (length levels) step ≡ length (nested_step step (record { rows = rows; levels = levels })).levels
depth_kept rows levels begins within = refl
depth_kept rows [] (writes key value) within = refl
depth_kept rows (own ∷ outer) (writes key value) within = refl
depth_kept rows [] commits within = refl
depth_kept rows (own ∷ []) commits within = refl
depth_kept rows (own ∷ next ∷ outer) commits within = refl
depth_kept rows [] rolls_back within = refl
depth_kept rows (own ∷ outer) rolls_back within = refl
depth_kept rows levels (others_change new) within = refl

-- from any levels that stand in the savepoints on
agree_from : (entries : List Entry) (state : Nested) (steps : List Step) → Nests entries state.levels → StaysWithin (length state.levels) steps → SeesAlike (named_run steps (named_of entries state)) (nested_run steps state)
agree_from entries state [] nests within = record { rows = refl; depth = refl; own = refl }
agree_from entries state (step ∷ steps) nests within =
    let here = steps_alike entries state step nests within.0 in
    let rest = subst (λ d. StaysWithin d steps) (depth_kept state.rows state.levels step within.0) within.1 in
    subst (λ named. SeesAlike (named_run steps named) (nested_run steps (nested_step step state))) (sym here.1) (agree_from here.0 (nested_step step state) steps here.2 rest)

pub levels_agree : LevelsAgree
levels_agree rows steps within = agree_from [] (nested_over rows) steps tt within
