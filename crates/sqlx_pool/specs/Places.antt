-- What becomes of a place for the minimum, held or not.
use Rattle.std.specs.Prelude.{ℕ, Bool, true, false, not, ◌==◌, List, [], Option}
use Rattle.sqlx_pool_marks.specs.declared.mark.Mark.{Mark}
use Rattle.sqlx_pool_lists.specs.Core.{Core}
use Rattle.sqlx_pool_lists.specs.MaintenanceSteps.{done, done_marks, handed_back}

-- a place is held
abbrev pub holds_place : {C : Type 0} → Core C → Bool
holds_place core = not (core.places == 0)

-- the core after a place was used or given up, where one is held
abbrev pub done_if : {C : Type 0} → Bool → ℕ → Option C → Core C → Core C
done_if true m raw core = done core.shut m raw core
done_if false m raw core = core

-- its marks
abbrev pub done_if_marks : {C : Type 0} → Bool → Bool → ℕ → ℕ → Option C → List Mark
done_if_marks true shut n m raw = done_marks shut n m raw
done_if_marks false shut n m raw = []

-- what comes back: all, where no place is held
abbrev pub back_if : {C : Type 0} → Bool → Bool → Option C → Option C
back_if true shut raw = handed_back shut raw
back_if false shut raw = raw
