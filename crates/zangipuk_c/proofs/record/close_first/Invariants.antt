use Rattle.std.proofs.Common.{◌≡◌, ◌∷◌, ◌++◌, map, take, vec_capacity}
use Rattle.sqlx_pool_marks.specs.declared.mark.Mark.TheVariants.{Shut}
use Rattle.sqlx_pool_lists.specs.MaintenanceSteps.{closed_idle}
use Rattle.zangipuk_c.proofs.record.close_first.Given as goal

abbrev pub invariant-loop-at : goal.invariant-loop-at
invariant-loop-at g l = (l.log.items ≡ l.fn.log.items ++ Shut ∷ map closed_idle (take l.at l.idle.items)) × (vec_capacity l.log ≡ vec_capacity l.fn.log)
